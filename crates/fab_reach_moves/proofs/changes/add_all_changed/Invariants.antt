use Rattle.std.proofs.Common.{◌≡◌, ℕ, List, ◌++◌}
use Rattle.std.specs.FinMap as map
use Rattle.fab_inventory.specs.declared.port.Known.{Known}
use Rattle.fab_reach_base.specs.Adding.{Adds}
use Rattle.fab_reach_base.specs.Views.{seen}
use Rattle.fab_reach_base.specs.Records.{Records}
use Rattle.fab_reach_books.specs.declared.row.Row.{Row}
use Rattle.fab_reach_base.proofs.Adding.{Before}
use Rattle.fab_reach_moves.specs.Inner.Changing.{AreActive, IsPortChangedBy, world_at}
use Rattle.fab_reach_books.specs.Inner.Sets.{HasPortIn}
use Rattle.fab_reach_books.specs.Rows.{IsRowDiff}
use Rattle.fab_reach_moves.proofs.changes.add_all_changed.Given as goal

abbrev pub invariant-loop-name : goal.invariant-loop-name
invariant-loop-name g l =
    (listed : List (ℕ × Known)) × (listed ≡ map.entries (seen l.before).inventory.ports) × (before : List (ℕ × Known)) × (listed ≡ before ++ l.name-iterator)
    × ((v : Records) (gone come : List Row) → IsRowDiff (seen l.before) v gone come → AreActive gone l.active.gone → AreActive come l.active.come → Adds (Before (λ (e : ℕ × Known) (y : ℕ). IsPortChangedBy (seen l.before) (world_at l.is_before (seen l.before) v) l.key y × (y ≡ e.0)) before) (HasPortIn l.fn.ports) (HasPortIn l.ports))
