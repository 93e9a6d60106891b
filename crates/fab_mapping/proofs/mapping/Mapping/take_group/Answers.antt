use Rattle.std.proofs.Common.{ap, sym, ◌∙◌, refl}
use Rattle.fab_mapping.specs.Mappings.{MappingRows}
use Rattle.fab_mapping.proofs.GroupChanges.{group_dropped, group_seen}
use Rattle.fab_mapping.proofs.mapping.Mapping.take_group.Goals as goal

pub returns-clause-was : goal.returns-clause-was
returns-clause-was g c = c.remove.ensures.value ∙ sym (group_seen c.self.inside.groups c.args.self.now c.args.name.now _ (ap (λ (v : MappingRows). v.groups) c.self.view_is) refl)

pub returns-clause-ok : goal.returns-clause-ok
returns-clause-ok g c = group_dropped c.self.inside.host_groups c.self.inside.groups c.remove.new.self c.args.name.now c.args.self.now c.self.view_is c.remove.ensures.updates
