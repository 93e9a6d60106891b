use Rattle.std.proofs.Common.{None, true, is_some, refl, sym, ap}
use Rattle.fab_mapping_base.specs.Groups.{exposed_as}
use Rattle.fab_mapping.specs.Mappings.{MappingRows}
use Rattle.fab_mapping.proofs.GroupChanges.{group_seen, changed}
use Rattle.fab_mapping.proofs.Keeping.{change_keeps, exposed_sound, exposed_fits}
use Rattle.fab_mapping.proofs.mapping.Mapping.expose.Goals as goal

pub returns-in_default-clause-err : goal.returns-in_default-clause-err
returns-in_default-clause-err g c = (refl, group_seen c.self.inside.groups c.args.self.now c.args.name.now None (ap (λ (v : MappingRows). v.groups) c.self.view_is) (sym c.in_default.ensures.value))

pub returns-clause-ok : goal.returns-clause-ok
returns-clause-ok g c = changed c.self.inside.host_groups c.self.inside.groups (c.get_mut.follows.lender c.set_exposed.new.self) c.args.name.now c.in-Some.group.now c.set_exposed.new.self (exposed_as true) c.args.self.now c.self.view_is (sym c.in-Some.ensures.value) c.set_exposed.ensures ((c.get_mut.follows.holds c.set_exposed.new.self).3 (ap is_some (sym c.in-Some.ensures.value))).0

pub returns-clause-keeps : goal.returns-clause-keeps
returns-clause-keeps g c = λ inventory. change_keeps c.args.self.now _ c.args.name.now (exposed_as true) inventory (returns-clause-ok g c) (λ x at h. exposed_sound _ x h true) (λ x at h. exposed_fits inventory x h true)
