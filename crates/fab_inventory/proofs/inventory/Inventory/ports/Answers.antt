use Rattle.std.proofs.Common.{sym, ap, ◌∙◌}
use Rattle.std.specs.FinMap as map
use Rattle.std.specs.Cmp.{nat_cmp_total}
use Rattle.std.specs.FinSet as set
use Rattle.fab_inventory.specs.Inventories.{InventoryRows}
use Rattle.fab_lemmas.proofs.SeenMaps.{entries_made}
use Rattle.fab_inventory.proofs.inventory.Inventory.ports.Goals as goal

pub returns : goal.returns
returns g c = c.iter.ensures.rest ∙ sym (entries_made nat_cmp_total set.nat_cmp-IsAntisymmetric c.self.inside.ports.entries c.iter.ensures.ordered) ∙ ap (λ (v : InventoryRows). map.entries v.ports) c.self.view_is
