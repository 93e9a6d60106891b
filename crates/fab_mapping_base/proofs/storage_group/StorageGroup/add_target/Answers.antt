use Rattle.std.proofs.Common.{◌<◌, ◌≤◌, inl, inr, sym, ◌∙◌, subst, arith}
use Rattle.std.specs.Cmp.{nat_cmp_total}
use Rattle.std.specs.FinSet as set
use Rattle.fab_mapping_base.specs.declared.fault.MappingFault.TheVariants.{Limit}
use Rattle.fab_mapping_base.specs.declared.fault.MappingLimit.TheVariants.{Parts}
use Rattle.fab_mapping_base.specs.Groups.{StorageGroupRows, HasRoomForTarget, AddTargetLimit}
use Rattle.fab_inventory.proofs.fab_lemmas.SeenSets.{contains_seen, len_seen, set_insert}
use Rattle.fab_mapping_base.proofs.GroupParts.{target_put}
use Rattle.fab_mapping_base.proofs.storage_group.StorageGroup.add_target.Goals as goal
use Rattle.fab_mapping_base.proofs.storage_group.StorageGroup.add_target.Goals.{else-len-ge-MOST_TARGETS-via-then-len-ge-MOST_TARGETS+else-not-contains, else-len-ge-MOST_TARGETS-via-else-len-ge-MOST_TARGETS}

pub returns-then-not-contains-clause-err : goal.returns-then-not-contains-clause-err
returns-then-not-contains-clause-err g c =
    subst (λ (v : StorageGroupRows). AddTargetLimit v c.args.target (Limit Parts)) c.self.view_is (
      contains_seen nat_cmp_total c.self.inside.targets c.args.target ∙ sym c.contains.ensures ∙ c.if-not-contains.true,
      subst (λ n. 32 ≤ n) (sym (len_seen nat_cmp_total c.self.inside.targets.keys c.len.ensures.ordered)) (omega (arith, c.len.ensures.len)),
    )

pub returns-clause-room : goal.returns-clause-room
returns-clause-room g c = subst (λ (v : StorageGroupRows). HasRoomForTarget v c.args.target) c.self.view_is (elim c.else-len-ge-MOST_TARGETS.branch [
  | else-len-ge-MOST_TARGETS-via-then-len-ge-MOST_TARGETS+else-not-contains w ↦ inl (contains_seen nat_cmp_total c.self.inside.targets c.args.target ∙ sym w.contains.ensures ∙ w.if-not-contains.false)
  | else-len-ge-MOST_TARGETS-via-else-len-ge-MOST_TARGETS w ↦ inr (subst (λ n. n < 32) (sym (len_seen nat_cmp_total c.self.inside.targets.keys c.len.ensures.ordered)) (omega (arith, c.len.ensures.len, w.if-len-ge-MOST_TARGETS)))
])

pub returns-clause-ok : goal.returns-clause-ok
returns-clause-ok g c = target_put _ _ _ c.args.target c.self.view_is (set_insert nat_cmp_total set.nat_cmp-IsAntisymmetric c.self.inside.targets c.insert.new.self c.args.target c.in_ok-insert.ensures.updates.0)
