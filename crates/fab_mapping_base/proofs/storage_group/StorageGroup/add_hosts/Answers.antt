use Rattle.std.proofs.Common.{◌<◌, ◌≤◌, inl, inr, sym, ◌∙◌, subst, arith}
use Rattle.fab_inventory.proofs.fab_names.OrderLaws.{name_total, name_exact}
use Rattle.fab_mapping_base.specs.declared.fault.MappingFault.TheVariants.{Limit}
use Rattle.fab_mapping_base.specs.declared.fault.MappingLimit.TheVariants.{Parts}
use Rattle.fab_mapping_base.specs.Groups.{StorageGroupRows, HasRoomForHosts, AddHostsLimit}
use Rattle.fab_inventory.proofs.fab_lemmas.SeenSets.{contains_seen, len_seen, set_insert}
use Rattle.fab_mapping_base.proofs.GroupParts.{hosts_put}
use Rattle.fab_mapping_base.proofs.storage_group.StorageGroup.add_hosts.Goals as goal
use Rattle.fab_mapping_base.proofs.storage_group.StorageGroup.add_hosts.Goals.{else-len-ge-MOST_GROUPS_SERVED-via-then-len-ge-MOST_GROUPS_SERVED+else-not-contains, else-len-ge-MOST_GROUPS_SERVED-via-else-len-ge-MOST_GROUPS_SERVED}

pub returns-then-not-contains-clause-err : goal.returns-then-not-contains-clause-err
returns-then-not-contains-clause-err g c =
    subst (λ (v : StorageGroupRows). AddHostsLimit v c.args.hosts (Limit Parts)) c.self.view_is (
      contains_seen name_total c.self.inside.host_groups c.args.hosts ∙ sym c.contains.ensures ∙ c.if-not-contains.true,
      subst (λ n. 64 ≤ n) (sym (len_seen name_total c.self.inside.host_groups.keys c.len.ensures.ordered)) (omega (arith, c.len.ensures.len)),
    )

pub returns-clause-room : goal.returns-clause-room
returns-clause-room g c = subst (λ (v : StorageGroupRows). HasRoomForHosts v c.args.hosts) c.self.view_is (elim c.else-len-ge-MOST_GROUPS_SERVED.branch [
  | else-len-ge-MOST_GROUPS_SERVED-via-then-len-ge-MOST_GROUPS_SERVED+else-not-contains w ↦ inl (contains_seen name_total c.self.inside.host_groups c.args.hosts ∙ sym w.contains.ensures ∙ w.if-not-contains.false)
  | else-len-ge-MOST_GROUPS_SERVED-via-else-len-ge-MOST_GROUPS_SERVED w ↦ inr (subst (λ n. n < 64) (sym (len_seen name_total c.self.inside.host_groups.keys c.len.ensures.ordered)) (omega (arith, c.len.ensures.len, w.if-len-ge-MOST_GROUPS_SERVED)))
])

pub returns-clause-ok : goal.returns-clause-ok
returns-clause-ok g c = hosts_put _ _ _ c.args.hosts c.self.view_is (set_insert name_total name_exact c.self.inside.host_groups c.insert.new.self c.args.hosts c.in_ok-insert.ensures.updates.0)
