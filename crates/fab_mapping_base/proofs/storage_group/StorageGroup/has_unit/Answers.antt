use Rattle.std.proofs.Common.{is_some, sym, ap, ◌∙◌}
use Rattle.std.specs.Cmp.{nat_cmp_total}
use Rattle.std.specs.FinMap as map
use Rattle.fab_inventory.proofs.fab_lemmas.SeenMaps.{get_entries}
use Rattle.fab_mapping_base.specs.Groups.{StorageGroupRows}
use Rattle.fab_mapping_base.proofs.storage_group.StorageGroup.has_unit.Goals as goal

pub returns : goal.returns
returns g c = c.contains_key.ensures ∙ ap is_some (sym (get_entries nat_cmp_total c.self.inside.units.entries c.args.unit)) ∙ ap (λ (v : StorageGroupRows). map.contains_key v.units c.args.unit) c.self.view_is
