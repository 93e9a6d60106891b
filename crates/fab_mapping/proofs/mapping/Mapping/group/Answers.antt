use Rattle.std.proofs.Common.{refl, sym, ap, ◌∙◌}
use Rattle.fab_mapping_base.proofs.fab_names.OrderLaws.{name_total}
use Rattle.fab_mapping_base.proofs.fab_lemmas.SeenMaps.{looked_up}
use Rattle.fab_mapping.specs.Mappings.{MappingRows}
use Rattle.fab_mapping.proofs.mapping.Mapping.group.Goals as goal

pub returns : goal.returns
returns g c = c.get.ensures.value ∙ sym (looked_up name_total c.self.inside.groups.entries c.args.self.now.groups c.args.name.now _ (ap (λ (v : MappingRows). v.groups) c.self.view_is) refl)
