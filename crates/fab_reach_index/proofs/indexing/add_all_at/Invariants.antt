use Rattle.std.proofs.Common.{◌≡◌, List, ◌++◌}
use Rattle.fab_zoning.specs.Edits.{IsIn}
use Rattle.fab_reach_base.specs.Adding.{Adds}
use Rattle.fab_reach_base.proofs.Adding.{Before}
use Rattle.fab_reach_index.proofs.Placed.{AtKey}
use Rattle.fab_reach_index.proofs.indexing.add_all_at.Given as goal

abbrev pub invariant-loop-item : goal.invariant-loop-item
invariant-loop-item g l = (before : List _) × (l.initial.item-iterator ≡ before ++ l.item-iterator) × Adds (Before (AtKey l.key) before) (IsIn g.Q.Ord.cmp g.X.Ord.cmp l.fn.sets) (IsIn g.Q.Ord.cmp g.X.Ord.cmp l.sets)
