use Rattle.std.proofs.Common.{Some, None, is_some, refl, sym, ap, ◌∙◌}
use mathlib.Core.Bool.{true≢false}
use Rattle.fab_mapping_base.specs.Groups.{with_target}
use Rattle.fab_mapping.specs.Mappings.{MappingRows}
use Rattle.fab_mapping.proofs.GroupChanges.{on_three, group_seen, changed, kept, on_ok, on_err, if_err, always_ok, add_target_fails, port_held, port_missing}
use Rattle.fab_mapping.proofs.Keeping.{change_keeps, of_group, target_put, target_put_fits}
use Rattle.fab_mapping.proofs.mapping.Mapping.add_target.Goals as goal

pub returns-in_default-clause-err : goal.returns-in_default-clause-err
returns-in_default-clause-err g c = (refl, group_seen c.self.inside.groups c.args.self.now c.args.name.now None (ap (λ (v : MappingRows). v.groups) c.self.view_is) (sym c.in_default.ensures.value))

pub returns-in_default-port-clause-err : goal.returns-in_default-port-clause-err
returns-in_default-port-clause-err g c = (refl, (c.in-Some.group.now, group_seen c.self.inside.groups c.args.self.now c.args.name.now (Some c.in-Some.group.now) (ap (λ (v : MappingRows). v.groups) c.self.view_is) (sym c.in-Some.ensures.value), port_missing c.args.inventory.now.ports c.args.target.now c.in_default-port.ensures.port))

pub returns-in_default-port-clause-unchanged : goal.returns-in_default-port-clause-unchanged
returns-in_default-port-clause-unchanged g c = kept c.self.inside.host_groups c.self.inside.groups (c.get_mut.follows.lender c.in-Some.group.now) c.args.name.now c.in-Some.group.now c.in-Some.group.now c.args.self.now c.self.view_is (sym c.in-Some.ensures.value) refl (c.get_mut.follows.holds c.in-Some.group.now).0

pub returns-then-not-is_held_by-clause-err : goal.returns-then-not-is_held_by-clause-err
returns-then-not-is_held_by-clause-err g c = (c.in-Some.group.now, group_seen c.self.inside.groups c.args.self.now c.args.name.now (Some c.in-Some.group.now) (ap (λ (v : MappingRows). v.groups) c.self.view_is) (sym c.in-Some.ensures.value), ((port_held c.args.inventory.now.ports c.args.target.now c.in-Some-port.port c.in-Some-port.ensures.port).0, λ is. true≢false (sym (c.is_held_by.ensures.1 (sym (port_held c.args.inventory.now.ports c.args.target.now c.in-Some-port.port c.in-Some-port.ensures.port).1 ∙ is ∙ ap Some (sym c.array.ensures))) ∙ c.if-not-is_held_by.true)))

pub returns-then-not-is_held_by-clause-unchanged : goal.returns-then-not-is_held_by-clause-unchanged
returns-then-not-is_held_by-clause-unchanged g c = kept c.self.inside.host_groups c.self.inside.groups (c.get_mut.follows.lender c.in-Some.group.now) c.args.name.now c.in-Some.group.now c.in-Some.group.now c.args.self.now c.self.view_is (sym c.in-Some.ensures.value) refl (c.get_mut.follows.holds c.in-Some.group.now).0

pub returns-clause-held : goal.returns-clause-held
returns-clause-held g c = always_ok c.add_target.result (c.in-Some.group.now, group_seen c.self.inside.groups c.args.self.now c.args.name.now (Some c.in-Some.group.now) (ap (λ (v : MappingRows). v.groups) c.self.view_is) (sym c.in-Some.ensures.value), (port_held c.args.inventory.now.ports c.args.target.now c.in-Some-port.port c.in-Some-port.ensures.port).1 ∙ c.is_held_by.ensures.0 c.if-not-is_held_by.false ∙ ap Some c.array.ensures)

pub returns-clause-room : goal.returns-clause-room
returns-clause-room g c = on_ok c.add_target.result c.add_target.ensures.room (λ room. (c.in-Some.group.now, group_seen c.self.inside.groups c.args.self.now c.args.name.now (Some c.in-Some.group.now) (ap (λ (v : MappingRows). v.groups) c.self.view_is) (sym c.in-Some.ensures.value), room))

pub returns-clause-ok : goal.returns-clause-ok
returns-clause-ok g c = on_ok c.add_target.result c.add_target.ensures.ok (λ is. changed c.self.inside.host_groups c.self.inside.groups (c.get_mut.follows.lender c.add_target.new.self) c.args.name.now c.in-Some.group.now c.add_target.new.self (with_target c.args.target.now) c.args.self.now c.self.view_is (sym c.in-Some.ensures.value) is ((c.get_mut.follows.holds c.add_target.new.self).3 (ap is_some (sym c.in-Some.ensures.value))).0)

pub returns-clause-err : goal.returns-clause-err
returns-clause-err g c = if_err c.add_target.result c.add_target.ensures.err (add_target_fails c.args.self.now c.args.inventory.now c.args.name.now c.args.target.now c.in-Some.group.now (group_seen c.self.inside.groups c.args.self.now c.args.name.now (Some c.in-Some.group.now) (ap (λ (v : MappingRows). v.groups) c.self.view_is) (sym c.in-Some.ensures.value)) ((port_held c.args.inventory.now.ports c.args.target.now c.in-Some-port.port c.in-Some-port.ensures.port).1 ∙ c.is_held_by.ensures.0 c.if-not-is_held_by.false ∙ ap Some c.array.ensures))

pub returns-clause-unchanged : goal.returns-clause-unchanged
returns-clause-unchanged g c = on_err c.add_target.result c.add_target.ensures.unchanged (λ is. kept c.self.inside.host_groups c.self.inside.groups (c.get_mut.follows.lender c.add_target.new.self) c.args.name.now c.in-Some.group.now c.add_target.new.self c.args.self.now c.self.view_is (sym c.in-Some.ensures.value) is (c.get_mut.follows.holds c.add_target.new.self).0)

pub returns-clause-keeps : goal.returns-clause-keeps
returns-clause-keeps g c =
    on_three c.add_target.result (returns-clause-held g c) (returns-clause-room g c) (returns-clause-ok g c) (λ held room is.
    change_keeps c.args.self.now _ c.args.name.now (with_target c.args.target.now) c.args.inventory.now is
    (λ x at h. target_put _ x h c.args.target.now (of_group c.args.self.now c.args.name.now _ room x at)) (λ x at h. target_put_fits c.args.inventory.now x h c.args.target.now (of_group c.args.self.now c.args.name.now _ held x at)))
