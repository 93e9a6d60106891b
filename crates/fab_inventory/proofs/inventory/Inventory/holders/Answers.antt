use Rattle.std.proofs.Common.{sym, ap, ◌∙◌}
use Rattle.std.specs.FinMap as map
use Rattle.fab_names.proofs.OrderLaws.{name_total, name_exact}
use Rattle.fab_inventory.specs.Inventories.{InventoryRows}
use Rattle.fab_lemmas.proofs.SeenMaps.{entries_made}
use Rattle.fab_inventory.proofs.inventory.Inventory.holders.Goals as goal

pub returns : goal.returns
returns g c = c.iter.ensures.rest ∙ sym (entries_made name_total name_exact c.self.inside.holders.entries c.iter.ensures.ordered) ∙ ap (λ (v : InventoryRows). map.entries v.holders) c.self.view_is
