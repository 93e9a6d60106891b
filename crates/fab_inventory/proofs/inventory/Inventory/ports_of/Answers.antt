use Rattle.std.proofs.Common.{ℕ, [], Option, Result, Ok, Err, IfOk, ap, subst}
use Rattle.std.specs.FinMap as map
use Rattle.std.specs.Ordering.{nat_cmp}
use Rattle.fab_lemmas.specs.Lists.{IsListOf}
use Rattle.fab_inventory.specs.declared.port.Known.{Known}
use Rattle.fab_inventory.specs.Inventories.{InventoryRows}
use Rattle.fab_inventory.specs.Holders.{Leaves}
use Rattle.std.specs.Cmp.{nat_cmp_total}
use Rattle.fab_lemmas.proofs.SeenMaps.{same_look_ups}
use Rattle.fab_inventory.proofs.Holdings.{held_of_leaving}
use Rattle.fab_inventory.proofs.inventory.Inventory.ports_of.Goals as goal

by : {X E : Type 0} {P Q : X → Type 0} (r : Result X E) → ((x : X) → P x → Q x) → IfOk r P → IfOk r Q
by (Ok x) f h = f x h
by (Err e) f h = tt

pub returns : goal.returns
returns g c =
    by c.leaving.result (λ found l. held_of_leaving (map.get c.args.self.now.ports) c.args.holder.now found.items l)
    (subst (λ (f : ℕ → Option Known). IfOk c.leaving.result (λ found. IsListOf nat_cmp (Leaves f c.args.holder.now []) found.items))
    (same_look_ups nat_cmp_total c.self.inside.ports c.args.self.now.ports (ap (λ (v : InventoryRows). v.ports) c.self.view_is)) c.leaving.ensures)
