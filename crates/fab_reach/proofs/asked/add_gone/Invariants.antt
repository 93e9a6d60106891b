use Rattle.std.proofs.Common.{◌≡◌, List, ◌++◌}
use Rattle.fab_reach_base.specs.Adding.{Adds}
use Rattle.fab_reach_base.specs.Orders.{Has}
use Rattle.fab_reach_base.specs.declared.path.Path.{Path}
use Rattle.fab_reach_base.proofs.Adding.{Before}
use Rattle.fab_reach.proofs.AskedPairs.{IfGone}
use Rattle.fab_reach.proofs.asked.add_gone.Given as goal

abbrev pub invariant-loop-path : goal.invariant-loop-path
invariant-loop-path g l = (before : List Path) × (l.initial.path-iterator ≡ before ++ l.path-iterator) × Adds (Before (IfGone l.fn.rows l.these) before) (Has l.fn.paths) (Has l.paths)
