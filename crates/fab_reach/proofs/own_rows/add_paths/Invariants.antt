use Rattle.std.proofs.Common.{◌≡◌, List, ◌++◌}
use Rattle.fab_reach_base.specs.Adding.{Adds}
use Rattle.fab_reach_base.specs.Orders.{Has}
use Rattle.fab_reach_base.specs.declared.path.Path.{Path}
use Rattle.fab_reach_base.proofs.Adding.{Before}
use Rattle.fab_reach.proofs.own_rows.add_paths.Given as goal

abbrev pub invariant-loop-path : goal.invariant-loop-path
invariant-loop-path g l = (before : List Path) × (l.paths.keys ≡ before ++ l.path-iterator) × Adds (Before (λ (k x : Path). x ≡ k) before) (Has l.fn.own) (Has l.own)
