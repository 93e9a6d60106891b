use Rattle.std.proofs.Common.{sym, ap, ◌∙◌}
use Rattle.std.specs.Cmp.{nat_cmp_total}
use Rattle.std.specs.FinMap as map
use Rattle.std.specs.FinSet as set
use Rattle.fab_inventory.proofs.fab_lemmas.SeenMaps.{entries_made}
use Rattle.fab_mapping_base.specs.Groups.{StorageGroupRows}
use Rattle.fab_mapping_base.proofs.storage_group.StorageGroup.units.Goals as goal

pub returns : goal.returns
returns g c = c.iter.ensures.rest ∙ sym (entries_made nat_cmp_total set.nat_cmp-IsAntisymmetric c.self.inside.units.entries c.iter.ensures.ordered) ∙ ap (λ (v : StorageGroupRows). map.entries v.units) c.self.view_is
