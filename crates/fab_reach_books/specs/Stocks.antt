-- Ports and holders in which two inventories differ.
use Rattle.std.specs.Prelude.{◌≡◌, ◌↔◌, ◌⊎◌, List, Contains}
use Rattle.fab_inventory.specs.Inventories.{InventoryRows}
use Rattle.fab_inventory.specs.declared.port.Port.{Port}
use Rattle.fab_store_rows.specs.Standing.{IsKnown}
use Rattle.fab_store_rows.specs.declared.inventory_row.HolderRow.{HolderRow}
use Rattle.fab_store_rows.specs.declared.inventory_row.InventoryRow.{InventoryRow}
use Rattle.fab_store_rows.specs.declared.inventory_row.InventoryRow.TheVariants as inventory
use Rattle.fab_reach_books.specs.declared.row.Row.{Row}
use Rattle.fab_reach_books.specs.declared.row.Row.TheVariants as row

-- the row stands in the first inventory, and not in the second
abbrev pub IsKnownOnly : InventoryRows → InventoryRows → InventoryRow → Type 0
IsKnownOnly v w r = IsKnown v r × ¬ IsKnown w r

-- the ports and the holders that stand in the first inventory, and not in the second
pub record AreKnownOnlyIn (v w : InventoryRows) (ports : List Port) (holders : List HolderRow) : Type 0 where
  pub ports_are : (p : Port) → Contains ports p ↔ IsKnownOnly v w (inventory.Port p)
  pub holders_are : (h : HolderRow) → Contains holders h ↔ IsKnownOnly v w (inventory.Holder h)

-- the row is one of these ports; one of these holders; one of either
abbrev pub IsPortOf : List Port → Row → Type 0
IsPortOf ports r = (p : Port) × Contains ports p × (r ≡ row.Port p)

abbrev pub IsHolderOf : List HolderRow → Row → Type 0
IsHolderOf holders r = (h : HolderRow) × Contains holders h × (r ≡ row.Holder h)

abbrev pub IsStockRow : List Port → List HolderRow → Row → Type 0
IsStockRow ports holders r = IsPortOf ports r ⊎ IsHolderOf holders r
