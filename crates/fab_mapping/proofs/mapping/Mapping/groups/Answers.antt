use Rattle.std.proofs.Common.{sym, ap, ◌∙◌}
use Rattle.std.specs.FinMap as map
use Rattle.fab_mapping_base.proofs.fab_names.OrderLaws.{name_total, name_exact}
use Rattle.fab_mapping_base.proofs.fab_lemmas.SeenMaps.{entries_made}
use Rattle.fab_mapping.specs.Mappings.{MappingRows}
use Rattle.fab_mapping.proofs.mapping.Mapping.groups.Goals as goal

pub returns : goal.returns
returns g c = c.iter.ensures.rest ∙ sym (entries_made name_total name_exact c.self.inside.groups.entries c.iter.ensures.ordered) ∙ ap (λ (v : MappingRows). map.entries v.groups) c.self.view_is
