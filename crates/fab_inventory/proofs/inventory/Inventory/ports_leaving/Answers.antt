use Rattle.std.proofs.Common.{ℕ, Option, IfOk, ap, subst}
use Rattle.std.specs.Ordering.{nat_cmp}
use Rattle.fab_lemmas.specs.Lists.{IsListOf}
use Rattle.fab_inventory.specs.declared.port.Known.{Known}
use Rattle.fab_inventory.specs.Inventories.{InventoryRows}
use Rattle.fab_inventory.specs.Holders.{Leaves}
use Rattle.std.specs.Cmp.{nat_cmp_total}
use Rattle.fab_lemmas.proofs.SeenMaps.{same_look_ups}
use Rattle.fab_inventory.proofs.inventory.Inventory.ports_leaving.Goals as goal

pub returns : goal.returns
returns g c =
    subst (λ (f : ℕ → Option Known). IfOk c.leaving.result (λ found. IsListOf nat_cmp (Leaves f c.args.holder.now c.args.listed.now) found.items))
    (same_look_ups nat_cmp_total c.self.inside.ports c.args.self.now.ports (ap (λ (v : InventoryRows). v.ports) c.self.view_is)) c.leaving.ensures
