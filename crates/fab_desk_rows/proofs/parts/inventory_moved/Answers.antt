use Rattle.std.proofs.Common.{◌≡◌, IfOk, inl, inr, ap, sym, subst}
use Rattle.fab_reach_base.specs.fab_inventory.Inventories.{InventoryRows}
use Rattle.fab_store_world.specs.Inventories.{IsInventoryDifference}
use Rattle.fab_desk_commands.specs.Nexts.{next_world, Suits}
use Rattle.fab_world.proofs.WholeWorld.{ok_as}
use Rattle.fab_desk_rows.proofs.parts.inventory_moved.Goals as goal

pub returns-in-Same : goal.returns-in-Same
returns-in-Same g c =
    let w = c.args.world.now in
    let stays : (next_world w c.args.next.now).inventory ≡ w.inventory = elim c.in-Same.is [
      | inl e ↦ ap (λ n. (next_world w n).inventory) e
      | inr more ↦ elim more [
        | inl e ↦ ap (λ n. (next_world w n).inventory) e.2
        | inr more ↦ elim more [ inl e ↦ ap (λ n. (next_world w n).inventory) e.2 | inr e ↦ ap (λ n. (next_world w n).inventory) e.3 ]
      ]
    ] in
    subst (λ (v : InventoryRows). IsInventoryDifference w.inventory v c.same_inventory.result) (sym stays) (c.same_inventory.ensures w.inventory)

pub returns-in-Stock : goal.returns-in-Stock
returns-in-Stock g c =
    let w = c.args.world.now in
    let differs = (subst (Suits w) c.in-Stock.is c.requires).1 in
    let told : IfOk c.inventory_told.result (IsInventoryDifference w.inventory c.in-Stock.inventory) = ok_as c.inventory_told.result (λ again h. h w.inventory c.in-Stock.inventory differs) c.inventory_told.ensures in
    subst (λ (v : InventoryRows). IfOk c.inventory_told.result (IsInventoryDifference w.inventory v)) (sym (ap (λ n. (next_world w n).inventory) c.in-Stock.is)) told
