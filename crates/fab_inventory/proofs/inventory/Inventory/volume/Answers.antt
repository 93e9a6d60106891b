use Rattle.std.proofs.Common.{sym, ap, ◌∙◌, refl}
use Rattle.fab_names.proofs.OrderLaws.{name_total}
use Rattle.fab_inventory.specs.Inventories.{InventoryRows}
use Rattle.fab_lemmas.proofs.SeenMaps.{looked_up}
use Rattle.fab_inventory.proofs.inventory.Inventory.volume.Goals as goal

pub returns-clause-volume : goal.returns-clause-volume
returns-clause-volume g c = c.copied.ensures ∙ c.get.ensures.value ∙ sym (looked_up name_total c.self.inside.volumes.entries c.args.self.now.volumes c.args.name.now _ (ap (λ (v : InventoryRows). v.volumes) c.self.view_is) refl)
