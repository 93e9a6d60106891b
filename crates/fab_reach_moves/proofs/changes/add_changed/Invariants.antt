use Rattle.std.proofs.Common.{◌≡◌, List, ◌++◌}
use Rattle.fab_reach_base.specs.Adding.{Adds}
use Rattle.fab_reach_base.specs.Views.{seen}
use Rattle.fab_reach_base.specs.Records.{Records}
use Rattle.fab_reach_books.specs.declared.row.Row.{Row}
use Rattle.fab_reach_base.proofs.Adding.{Before}
use Rattle.fab_reach_moves.specs.Inner.Changing.{Key, AreActive, IsPortChangedBy, world_at}
use Rattle.fab_reach_books.specs.Inner.Sets.{HasPortIn}
use Rattle.fab_reach_books.specs.Rows.{IsRowDiff}
use Rattle.fab_reach_moves.proofs.changes.add_changed.Given as goal

abbrev pub invariant-loop-key : goal.invariant-loop-key
invariant-loop-key g l =
    (before : List Key) × (l.initial.key-iterator ≡ before ++ l.key-iterator)
    × ((v : Records) (gone come : List Row) → IsRowDiff (seen l.before) v gone come → AreActive gone l.active.gone → AreActive come l.active.come → Adds (Before (IsPortChangedBy (seen l.before) (world_at l.is_before (seen l.before) v)) before) (HasPortIn l.fn.ports) (HasPortIn l.ports))
