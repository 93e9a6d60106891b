use Rattle.std.proofs.Common.{◌≡◌, ℕ, List, ◌++◌}
use Rattle.fab_reach_base.specs.Adding.{Adds}
use Rattle.fab_reach_base.proofs.Adding.{Before}
use Rattle.fab_reach_books.specs.Inner.Sets.{HasPortIn}
use Rattle.fab_reach_books.specs.declared.row.Row.{Row}
use Rattle.fab_reach_moves.specs.Inner.Telling.{IsSideOf}
use Rattle.fab_reach_moves.proofs.ListsAfter.{IfUnsaid}
use Rattle.fab_reach_moves.proofs.lists_after.add_all_unless_said.Given as goal

abbrev pub invariant-loop-port : goal.invariant-loop-port
invariant-loop-port g l = (before : List ℕ) × (l.initial.port-iterator ≡ before ++ l.port-iterator) × ((rows : List Row) → IsSideOf rows l.side → Adds (Before (IfUnsaid rows) before) (HasPortIn l.fn.ports) (HasPortIn l.ports))
