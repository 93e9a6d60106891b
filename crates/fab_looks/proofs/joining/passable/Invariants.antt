use Rattle.std.proofs.Common.{◌≡◌, List, [], ◌++◌}
use Rattle.std.specs.BTreeSet.{BTreeSet}
use Rattle.fab_reach_base.specs.Adding.{Adds}
use Rattle.fab_reach_base.specs.Orders.{Has}
use Rattle.fab_reach_base.specs.Views.{seen}
use Rattle.fab_reach_base.specs.declared.path.Path.{Path}
use Rattle.fab_reach_base.proofs.Adding.{Before}
use Rattle.fab_looks.proofs.Gains.{ByPass}
use Rattle.fab_looks.proofs.joining.passable.Given as goal

abbrev pub invariant-loop-path : goal.invariant-loop-path
invariant-loop-path g l = (first : BTreeSet Path) × (first.keys ≡ []) × (before : List Path) × (l.paths.keys ≡ before ++ l.path-iterator) × Adds (Before (ByPass (seen l.view)) before) (Has first) (Has l.there)
