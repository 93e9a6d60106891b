use Rattle.fab_reach_index.specs.Patches.{Keeps}
use Rattle.fab_reach_index.proofs.patch.clear_places.Given as goal

abbrev pub invariant-loop-key : goal.invariant-loop-key
invariant-loop-key g l = Keeps g.Q.Ord.cmp g.K.Ord.cmp l.fn.map l.map
