use Rattle.std.proofs.Common.{◌≡◌, ℕ, List, ◌++◌}
use Rattle.std.specs.FinMap as map
use Rattle.fab_reach_base.specs.fab_lemmas.Lists.{IsListOf}
use Rattle.fab_reach_base.specs.fab_inventory.declared.port.Known.{Known}
use Rattle.fab_world.specs.fab_store_rows.Standing.{IsKnown}
use Rattle.fab_world.specs.fab_store_rows.declared.inventory_row.InventoryRow.TheVariants as row
use Rattle.fab_store_world.specs.Inventories.{port_order, port_row, entry_order, entry_row, address_order, address_row}
use Rattle.fab_store_world.specs.InventoryGathering.{IsRowOfEntries}
use Rattle.fab_store_world.proofs.inventories.add_ports.Given as goal

abbrev pub invariant-loop-name : goal.invariant-loop-name
invariant-loop-name g l =
    (before : List (ℕ × Known)) × (map.entries l.inventory.ports ≡ before ++ l.name-iterator)
    × IsListOf port_order (IsRowOfEntries port_row (λ r. ¬ IsKnown l.other (row.Port r)) before) l.ports.items
    × IsListOf entry_order (IsRowOfEntries entry_row (λ r. ¬ IsKnown l.other (row.Entry r)) before) l.entries.items
    × IsListOf address_order (IsRowOfEntries address_row (λ r. ¬ IsKnown l.other (row.Address r)) before) l.addresses.items
