use Rattle.std.proofs.Common.{Some, None, is_some, refl, sym, ap, ◌∙◌}
use Rattle.std.specs.FinMap as map
use Rattle.fab_mapping_base.specs.Groups.{without_unit}
use Rattle.fab_mapping.specs.Mappings.{MappingRows}
use Rattle.fab_mapping.proofs.GroupChanges.{group_seen, changed, kept}
use Rattle.fab_mapping.proofs.Keeping.{change_keeps, unit_gone, unit_gone_fits}
use Rattle.fab_mapping.proofs.mapping.Mapping.unmap.Goals as goal
use Rattle.fab_mapping_base.proofs.fab_lemmas.Tests.{none_from_test as nothing}

pub returns-in_default-clause-err : goal.returns-in_default-clause-err
returns-in_default-clause-err g c = (refl, group_seen c.self.inside.groups c.args.self.now c.args.name.now None (ap (λ (v : MappingRows). v.groups) c.self.view_is) (sym c.in_default.ensures.value))

pub returns-then-not-has_unit-clause-err : goal.returns-then-not-has_unit-clause-err
returns-then-not-has_unit-clause-err g c = (refl, (c.in-Some.group.now, group_seen c.self.inside.groups c.args.self.now c.args.name.now (Some c.in-Some.group.now) (ap (λ (v : MappingRows). v.groups) c.self.view_is) (sym c.in-Some.ensures.value), nothing (map.get c.in-Some.group.now.units c.args.unit) (sym c.has_unit.ensures ∙ c.if-not-has_unit.true)))

pub returns-then-not-has_unit-clause-unchanged : goal.returns-then-not-has_unit-clause-unchanged
returns-then-not-has_unit-clause-unchanged g c = kept c.self.inside.host_groups c.self.inside.groups (c.get_mut.follows.lender c.in-Some.group.now) c.args.name.now c.in-Some.group.now c.in-Some.group.now c.args.self.now c.self.view_is (sym c.in-Some.ensures.value) refl (c.get_mut.follows.holds c.in-Some.group.now).0

pub returns-clause-had : goal.returns-clause-had
returns-clause-had g c = (c.in-Some.group.now, group_seen c.self.inside.groups c.args.self.now c.args.name.now (Some c.in-Some.group.now) (ap (λ (v : MappingRows). v.groups) c.self.view_is) (sym c.in-Some.ensures.value), sym c.has_unit.ensures ∙ c.if-not-has_unit.false)

pub returns-clause-ok : goal.returns-clause-ok
returns-clause-ok g c = changed c.self.inside.host_groups c.self.inside.groups (c.get_mut.follows.lender c.unmap.new.self) c.args.name.now c.in-Some.group.now c.unmap.new.self (without_unit c.args.unit) c.args.self.now c.self.view_is (sym c.in-Some.ensures.value) c.unmap.ensures ((c.get_mut.follows.holds c.unmap.new.self).3 (ap is_some (sym c.in-Some.ensures.value))).0

pub returns-clause-keeps : goal.returns-clause-keeps
returns-clause-keeps g c = λ inventory. change_keeps c.args.self.now _ c.args.name.now (without_unit c.args.unit) inventory (returns-clause-ok g c) (λ x at h. unit_gone _ x h c.args.unit) (λ x at h. unit_gone_fits inventory x h c.args.unit)
