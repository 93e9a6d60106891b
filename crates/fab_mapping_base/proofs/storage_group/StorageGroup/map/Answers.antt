use Rattle.std.proofs.Common.{◌≡◌, ◌<◌, ◌≤◌, ℕ, List, Option, Some, None, is_some, inl, inr, refl, sym, ap, ◌∙◌, subst, arith}
use Rattle.std.specs.Cmp.{nat_cmp_total}
use Rattle.std.specs.FinSet as set
use mathlib.Core.Bool.{true≢false}
use Rattle.fab_inventory.proofs.fab_lemmas.SeenMaps.{looked_up, get_entries, len_entries, seen_insert}
use Rattle.fab_mapping_base.specs.declared.fault.MappingFault.TheVariants.{Limit}
use Rattle.fab_mapping_base.specs.declared.fault.MappingLimit.TheVariants.{Parts}
use Rattle.fab_mapping_base.specs.Groups.{StorageGroupRows, HasRoomForUnit, MapRefusal}
use Rattle.fab_mapping_base.proofs.GroupParts.{unit_put, unit_again}
use Rattle.fab_mapping_base.proofs.storage_group.StorageGroup.map.Goals as goal

pub returns-then-is_same-clause-free : goal.returns-then-is_same-clause-free
returns-then-is_same-clause-free g c other at =
    let there = looked_up nat_cmp_total c.self.inside.units.entries c.args.self.now.units c.args.unit (Some c.in-Some.there.now) (ap (λ (v : StorageGroupRows). v.units) c.self.view_is) c.in-Some.ensures.value in
    one (sym at ∙ there) ∙ c.is_same.ensures.0 c.if-is_same.true
  where
    one : {a b : List ℕ} → Some a ≡ Some b → a ≡ b
    one e = cc

pub returns-then-is_same-clause-room : goal.returns-then-is_same-clause-room
returns-then-is_same-clause-room g c =
    let there = looked_up nat_cmp_total c.self.inside.units.entries c.args.self.now.units c.args.unit (Some c.in-Some.there.now) (ap (λ (v : StorageGroupRows). v.units) c.self.view_is) c.in-Some.ensures.value in
    inl (ap is_some there)

pub returns-then-is_same-clause-ok : goal.returns-then-is_same-clause-ok
returns-then-is_same-clause-ok g c =
    let there = looked_up nat_cmp_total c.self.inside.units.entries c.args.self.now.units c.args.unit (Some c.in-Some.there.now) (ap (λ (v : StorageGroupRows). v.units) c.self.view_is) c.in-Some.ensures.value in
    unit_again c.args.self.now c.args.unit c.args.volume (there ∙ ap Some (c.is_same.ensures.0 c.if-is_same.true))

pub returns-in-Some-clause-err : goal.returns-in-Some-clause-err
returns-in-Some-clause-err g c =
    let there = looked_up nat_cmp_total c.self.inside.units.entries c.args.self.now.units c.args.unit (Some c.in-Some.there.now) (ap (λ (v : StorageGroupRows). v.units) c.self.view_is) c.in-Some.ensures.value in
    (refl, (c.in-Some.there.now, there, λ same. true≢false (sym (c.is_same.ensures.1 same) ∙ c.if-is_same.false)))

pub returns-then-len-ge-MOST_UNITS-clause-err : goal.returns-then-len-ge-MOST_UNITS-clause-err
returns-then-len-ge-MOST_UNITS-clause-err g c =
    subst (λ (v : StorageGroupRows). MapRefusal v c.args.unit c.args.volume (Limit Parts)) c.self.view_is (
      get_entries nat_cmp_total c.self.inside.units.entries c.args.unit ∙ sym c.in_default.ensures.value,
      subst (λ n. 256 ≤ n) (sym (len_entries nat_cmp_total c.self.inside.units.entries c.len.ensures.ordered)) (omega (arith, c.len.ensures.len)),
    )

pub returns-clause-free : goal.returns-clause-free
returns-clause-free g c other at =
    let none = looked_up nat_cmp_total c.self.inside.units.entries c.args.self.now.units c.args.unit None (ap (λ (v : StorageGroupRows). v.units) c.self.view_is) c.in_default.ensures.value in
    let e : ◌≡◌ {A = Option (List ℕ)} None (Some other) = sym none ∙ at in absurd cc

pub returns-clause-room : goal.returns-clause-room
returns-clause-room g c =
    subst (λ (v : StorageGroupRows). HasRoomForUnit v c.args.unit) c.self.view_is (
    inr (subst (λ n. n < 256) (sym (len_entries nat_cmp_total c.self.inside.units.entries c.len.ensures.ordered)) (omega (arith, c.len.ensures.len, c.if-len-ge-MOST_UNITS.false)))
    )

pub returns-clause-ok : goal.returns-clause-ok
returns-clause-ok g c = unit_put _ _ _ c.args.unit c.args.volume c.self.view_is (seen_insert nat_cmp_total set.nat_cmp-IsAntisymmetric c.self.inside.units c.insert.new.self c.args.unit c.args.volume c.in_ok-insert.ensures.updates.0)
