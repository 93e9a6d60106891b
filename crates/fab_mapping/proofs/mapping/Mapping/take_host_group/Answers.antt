use Rattle.std.proofs.Common.{ap, sym, ◌∙◌, refl}
use Rattle.fab_mapping.specs.Mappings.{MappingRows}
use Rattle.fab_mapping.proofs.GroupChanges.{hosts_dropped, hosts_seen}
use Rattle.fab_mapping.proofs.mapping.Mapping.take_host_group.Goals as goal

pub returns-clause-was : goal.returns-clause-was
returns-clause-was g c = c.remove.ensures.value ∙ sym (hosts_seen c.self.inside.host_groups c.args.self.now c.args.name.now _ (ap (λ (v : MappingRows). v.host_groups) c.self.view_is) refl)

pub returns-clause-ok : goal.returns-clause-ok
returns-clause-ok g c = hosts_dropped c.self.inside.host_groups c.remove.new.self c.self.inside.groups c.args.name.now c.args.self.now c.self.view_is c.remove.ensures.updates
