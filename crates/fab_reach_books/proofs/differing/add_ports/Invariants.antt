use Rattle.std.proofs.Common.{◌≡◌, ℕ, List, ◌++◌}
use Rattle.std.specs.FinMap as map
use Rattle.fab_inventory.specs.declared.port.Known.{Known}
use Rattle.fab_reach_base.specs.Views.{seen}
use Rattle.fab_reach_base.proofs.Adding.{Before}
use Rattle.fab_reach_books.specs.Inner.Telling.{Tells}
use Rattle.fab_reach_books.proofs.RowsTold.{Of, port_at_entry}
use Rattle.fab_reach_books.proofs.differing.add_ports.Given as goal

abbrev pub invariant-loop-name : goal.invariant-loop-name
invariant-loop-name g l =
    (listed : List (ℕ × Known)) × (listed ≡ map.entries (seen l.view).inventory.ports) × (before : List (ℕ × Known)) × (listed ≡ before ++ l.name-iterator)
    × Tells (seen l.other) (Before (Of (seen l.other) (port_at_entry (seen l.other))) before) l.fn.rows.items l.rows.items
