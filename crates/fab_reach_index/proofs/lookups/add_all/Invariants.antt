use Rattle.std.proofs.Common.{◌≡◌, ℕ, List, ◌++◌}
use Rattle.fab_reach_base.specs.Adding.{Adds}
use Rattle.fab_reach_base.proofs.Adding.{Before}
use Rattle.fab_reach_books.specs.Inner.Sets.{HasPortIn}
use Rattle.fab_reach_books.proofs.SetLoops.{Is}
use Rattle.fab_reach_index.proofs.lookups.add_all.Given as goal

abbrev pub invariant-loop-port : goal.invariant-loop-port
invariant-loop-port g l = (before : List ℕ) × (l.initial.port-iterator ≡ before ++ l.port-iterator) × Adds (Before (Is) before) (HasPortIn l.fn.ports) (HasPortIn l.ports)
