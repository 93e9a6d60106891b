use Rattle.std.proofs.Common.{sym, ap, ◌∙◌}
use Rattle.std.specs.Cmp.{nat_cmp_total}
use Rattle.std.specs.FinMap as map
use Rattle.fab_inventory.proofs.fab_lemmas.SeenMaps.{get_entries}
use Rattle.fab_mapping_base.specs.Groups.{StorageGroupRows}
use Rattle.fab_mapping_base.proofs.storage_group.StorageGroup.unit.Goals as goal

pub returns : goal.returns
returns g c = c.copied.ensures ∙ c.get.ensures.value ∙ sym (get_entries nat_cmp_total c.self.inside.units.entries c.args.unit) ∙ ap (λ (v : StorageGroupRows). map.get v.units c.args.unit) c.self.view_is
