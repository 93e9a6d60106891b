-- Which configurations and inventories their rows tell whole.
use Rattle.std.specs.Prelude.{◌↔◌}
use Rattle.fab_reach_base.specs.fab_inventory.Inventories.{InventoryRows}
use Rattle.fab_reach_base.specs.Records.{ConfigRows}
use Rattle.fab_store_rows.specs.declared.config_row.ConfigRow.{ConfigRow}
use Rattle.fab_store_rows.specs.declared.inventory_row.InventoryRow.{InventoryRow}
use Rattle.fab_store_rows.specs.declared.inventory_row.InventoryRow.TheVariants.{Port}
use Rattle.fab_store_rows.specs.Standing.{Stands, IsKnown}

-- the same rows stand in both
abbrev pub HaveSameRows : ConfigRows → ConfigRows → Type 0
HaveSameRows c d = (r : ConfigRow) → Stands c r ↔ Stands d r

-- the row is a table's: a whole port is none
abbrev pub IsOfTable : InventoryRow → Type 0
IsOfTable (Port p) = ⊥
IsOfTable _ = Unit {0}

-- the same rows of tables stand in both
abbrev pub KnowSameRows : InventoryRows → InventoryRows → Type 0
KnowSameRows v w = (r : InventoryRow) → IsOfTable r → IsKnown v r ↔ IsKnown w r
