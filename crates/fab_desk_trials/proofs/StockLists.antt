-- The rows in which an inventory differs.
use Rattle.std.proofs.Common.{◌≡◌, List, sym, subst}
use Rattle.fab_reach_base.specs.fab_inventory.Inventories.{InventoryRows}
use Rattle.fab_reach_base.specs.fab_inventory.declared.port.Port.{Port}
use Rattle.fab_reach_books.specs.Stocks.{AreKnownOnlyIn}
use Rattle.fab_store_rows.specs.declared.inventory_row.HolderRow.{HolderRow}
use Rattle.fab_store_world.specs.Inventories.{AreListsOf, IsKnownOnlyIn}
use Rattle.fab_store_world.specs.declared.inventories.InventoryLists.{InventoryLists}

-- the lists have just the ports and the holders that stand in the one inventory alone
pub known_only : {A : Type 0} (v w : InventoryRows) (lists : InventoryLists A) (ports : List Port) (holders : List HolderRow) → ports ≡ lists.ports.items → holders ≡ lists.holders.items → AreListsOf (IsKnownOnlyIn v w) lists → AreKnownOnlyIn v w ports holders
known_only v w lists ports holders same_ports same_holders are =
    subst (λ ps. AreKnownOnlyIn v w ps holders) (sym same_ports)
    (subst (AreKnownOnlyIn v w lists.ports.items) (sym same_holders)
    (record {
      ports_are = λ p. ((λ h. let k = are.ports.sound p h in (k.there, k.not_there)), λ k. are.ports.complete p (record { there = k.0; not_there = k.1 }));
      holders_are = λ p. ((λ h. let k = are.holders.sound p h in (k.there, k.not_there)), λ k. are.holders.complete p (record { there = k.0; not_there = k.1 }));
    }))
