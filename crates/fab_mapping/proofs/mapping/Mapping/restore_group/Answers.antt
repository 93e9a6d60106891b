use Rattle.std.proofs.Common.{ap, ◌∙◌}
use Rattle.std.specs.FinMap as map
use Rattle.fab_mapping_base.proofs.fab_lemmas.SeenMaps.{seen_insert}
use Rattle.fab_mapping_base.proofs.fab_names.OrderLaws.{name_total, name_exact}
use Rattle.fab_mapping.specs.Mappings.{MappingRows}
use Rattle.fab_mapping.proofs.mapping.Mapping.restore_group.Goals as goal

pub returns-clause-ok : goal.returns-clause-ok
returns-clause-ok g c = (λ i. record { host_groups = map.from_entries c.self.inside.host_groups.entries; groups = seen_insert name_total name_exact c.self.inside.groups c.insert.new.self c.args.name c.args.own c.in_ok-insert.ensures.updates.0 i }) ∙ ap (λ (v : MappingRows). record v { groups = map.insert v.groups c.args.name c.args.own }) c.self.view_is
