use Rattle.std.proofs.Common.{sym, ap, ◌∙◌, refl}
use Rattle.fab_names.proofs.OrderLaws.{name_total}
use Rattle.fab_inventory.specs.Inventories.{InventoryRows}
use Rattle.fab_lemmas.proofs.SeenMaps.{looked_up}
use Rattle.fab_inventory.proofs.inventory.Inventory.holder.Goals as goal

pub returns-clause-holder : goal.returns-clause-holder
returns-clause-holder g c = c.copied.ensures ∙ c.get.ensures.value ∙ sym (looked_up name_total c.self.inside.holders.entries c.args.self.now.holders c.args.name.now _ (ap (λ (v : InventoryRows). v.holders) c.self.view_is) refl)
