use Rattle.std.proofs.Common.{◌≡◌, List, ◌++◌}
use Rattle.fab_zoning.specs.Edits.{IsIn}
use Rattle.fab_reach_base.specs.Adding.{Adds}
use Rattle.fab_reach_base.proofs.Adding.{Before}
use Rattle.fab_reach_index.proofs.Placed.{OfItem}
use Rattle.fab_reach_index.proofs.indexing.add_under.Given as goal

abbrev pub invariant-loop-key : goal.invariant-loop-key
invariant-loop-key g l = (before : List _) × (l.initial.key-iterator ≡ before ++ l.key-iterator) × Adds (Before (OfItem l.item) before) (IsIn g.Q.Ord.cmp g.X.Ord.cmp l.fn.sets) (IsIn g.Q.Ord.cmp g.X.Ord.cmp l.sets)
