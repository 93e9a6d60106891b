use Rattle.std.proofs.Common.{ℕ, ◌≡◌, ◌<◌, ◌≤◌, Some, None, Bool, true, false, not, is_some, inl, inr, refl, sym, ap, ◌∙◌}
use Rattle.std.proofs.lemmas.Bool.{cases_lt}
use Rattle.fab_mapping_base.specs.declared.limits.TheConstants.{LAST_UNIT}
use mathlib.Core.Bool.{true≢false}
use Rattle.std.specs.Cmp.Lexicographic.{bytes_decides}
use Rattle.fab_mapping_base.specs.Groups.{with_unit}
use Rattle.fab_mapping.specs.Mappings.{MappingRows}
use Rattle.fab_mapping.proofs.GroupChanges.{on_four, group_seen, changed, kept, on_ok, on_err, if_err, always_ok, map_fails}
use Rattle.fab_mapping.proofs.Keeping.{change_keeps, of_group, unit_put, unit_put_fits}
use Rattle.fab_mapping.proofs.mapping.Mapping.map.Goals as goal

un_not : {b : Bool} → not b ≡ false → b ≡ true
un_not {b = true} e = refl
un_not {b = false} e = absurd (true≢false e)

-- a number that is not within a bound is beyond it
beyond : (n most : ℕ) (b : Bool) → (n ≤ most → b ≡ true) → b ≡ false → most < n
beyond n most b within is = elim (cases_lt most n) [ inl more ↦ more | inr few ↦ absurd (true≢false (sym (within few) ∙ is)) ]

pub returns-then-not-is_unit-clause-err : goal.returns-then-not-is_unit-clause-err
returns-then-not-is_unit-clause-err g c = beyond c.args.unit LAST_UNIT c.is_unit.result c.is_unit.ensures.1 c.if-not-is_unit.true

pub returns-in_default-clause-err : goal.returns-in_default-clause-err
returns-in_default-clause-err g c = (c.is_unit.ensures.0 c.if-not-is_unit.false, inl (refl, group_seen c.self.inside.groups c.args.self.now c.args.name.now None (ap (λ (v : MappingRows). v.groups) c.self.view_is) (sym c.in_default.ensures.value)))

pub returns-in_default-volume-clause-err : goal.returns-in_default-volume-clause-err
returns-in_default-volume-clause-err g c = (c.is_unit.ensures.0 c.if-not-is_unit.false, inr (refl, (c.in-Some.group.now, group_seen c.self.inside.groups c.args.self.now c.args.name.now (Some c.in-Some.group.now) (ap (λ (v : MappingRows). v.groups) c.self.view_is) (sym c.in-Some.ensures.value), sym c.in_default-volume.ensures.volume)))

pub returns-in_default-volume-clause-unchanged : goal.returns-in_default-volume-clause-unchanged
returns-in_default-volume-clause-unchanged g c = kept c.self.inside.host_groups c.self.inside.groups (c.get_mut.follows.lender c.in-Some.group.now) c.args.name.now c.in-Some.group.now c.in-Some.group.now c.args.self.now c.self.view_is (sym c.in-Some.ensures.value) refl (c.get_mut.follows.holds c.in-Some.group.now).0

pub returns-then-ne-clause-err : goal.returns-then-ne-clause-err
returns-then-ne-clause-err g c = (c.is_unit.ensures.0 c.if-not-is_unit.false, (c.in-Some.group.now, group_seen c.self.inside.groups c.args.self.now c.args.name.now (Some c.in-Some.group.now) (ap (λ (v : MappingRows). v.groups) c.self.view_is) (sym c.in-Some.ensures.value), (c.in-Some-volume.found, sym c.in-Some-volume.ensures.volume, λ is. true≢false (sym (sym c.ne.ensures ∙ c.if-ne.true) ∙ ap not ((bytes_decides _ _).1 (is ∙ sym c.array.ensures))))))

pub returns-then-ne-clause-unchanged : goal.returns-then-ne-clause-unchanged
returns-then-ne-clause-unchanged g c = kept c.self.inside.host_groups c.self.inside.groups (c.get_mut.follows.lender c.in-Some.group.now) c.args.name.now c.in-Some.group.now c.in-Some.group.now c.args.self.now c.self.view_is (sym c.in-Some.ensures.value) refl (c.get_mut.follows.holds c.in-Some.group.now).0

pub returns-clause-unit : goal.returns-clause-unit
returns-clause-unit g c = always_ok c.map.result (c.is_unit.ensures.0 c.if-not-is_unit.false)

pub returns-clause-on_array : goal.returns-clause-on_array
returns-clause-on_array g c = always_ok c.map.result (c.in-Some.group.now, group_seen c.self.inside.groups c.args.self.now c.args.name.now (Some c.in-Some.group.now) (ap (λ (v : MappingRows). v.groups) c.self.view_is) (sym c.in-Some.ensures.value), (c.in-Some-volume.found, sym c.in-Some-volume.ensures.volume, (bytes_decides _ _).0 (un_not (sym c.ne.ensures ∙ c.if-ne.false)) ∙ c.array.ensures))

pub returns-clause-free : goal.returns-clause-free
returns-clause-free g c = on_ok c.map.result c.map.ensures.free (λ free. (c.in-Some.group.now, group_seen c.self.inside.groups c.args.self.now c.args.name.now (Some c.in-Some.group.now) (ap (λ (v : MappingRows). v.groups) c.self.view_is) (sym c.in-Some.ensures.value), free))

pub returns-clause-room : goal.returns-clause-room
returns-clause-room g c = on_ok c.map.result c.map.ensures.room (λ room. (c.in-Some.group.now, group_seen c.self.inside.groups c.args.self.now c.args.name.now (Some c.in-Some.group.now) (ap (λ (v : MappingRows). v.groups) c.self.view_is) (sym c.in-Some.ensures.value), room))

pub returns-clause-ok : goal.returns-clause-ok
returns-clause-ok g c = on_ok c.map.result c.map.ensures.ok (λ is. changed c.self.inside.host_groups c.self.inside.groups (c.get_mut.follows.lender c.map.new.self) c.args.name.now c.in-Some.group.now c.map.new.self (with_unit c.args.unit c.args.volume.now) c.args.self.now c.self.view_is (sym c.in-Some.ensures.value) is ((c.get_mut.follows.holds c.map.new.self).3 (ap is_some (sym c.in-Some.ensures.value))).0)

pub returns-clause-err : goal.returns-clause-err
returns-clause-err g c = if_err c.map.result c.map.ensures.err (map_fails c.args.self.now c.args.inventory.now c.args.name.now c.args.unit c.args.volume.now c.in-Some.group.now (group_seen c.self.inside.groups c.args.self.now c.args.name.now (Some c.in-Some.group.now) (ap (λ (v : MappingRows). v.groups) c.self.view_is) (sym c.in-Some.ensures.value)) (c.is_unit.ensures.0 c.if-not-is_unit.false) (c.in-Some-volume.found, sym c.in-Some-volume.ensures.volume, (bytes_decides _ _).0 (un_not (sym c.ne.ensures ∙ c.if-ne.false)) ∙ c.array.ensures))

pub returns-clause-unchanged : goal.returns-clause-unchanged
returns-clause-unchanged g c = on_err c.map.result c.map.ensures.unchanged (λ is. kept c.self.inside.host_groups c.self.inside.groups (c.get_mut.follows.lender c.map.new.self) c.args.name.now c.in-Some.group.now c.map.new.self c.args.self.now c.self.view_is (sym c.in-Some.ensures.value) is (c.get_mut.follows.holds c.map.new.self).0)

pub returns-clause-keeps : goal.returns-clause-keeps
returns-clause-keeps g c =
    on_four c.map.result (returns-clause-unit g c) (returns-clause-on_array g c) (returns-clause-room g c) (returns-clause-ok g c) (λ small on room is.
    change_keeps c.args.self.now _ c.args.name.now (with_unit c.args.unit c.args.volume.now) c.args.inventory.now is
    (λ x at h. unit_put _ x h c.args.unit c.args.volume.now small (of_group c.args.self.now c.args.name.now _ room x at)) (λ x at h. unit_put_fits c.args.inventory.now x h c.args.unit c.args.volume.now (of_group c.args.self.now c.args.name.now _ on x at)))
