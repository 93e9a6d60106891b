use Rattle.std.proofs.Common.{◌≡◌, ◌++◌, List}
use Rattle.std.specs.BTreeSet.{BTreeSet}
use Rattle.fab_reach_index.specs.Patches.{Keeps}
use Rattle.fab_reach_index.proofs.Patching.{HavePlaces}
use Rattle.fab_reach_index.proofs.patch.make_places.Given as goal

abbrev pub invariant-loop-key : goal.invariant-loop-key
invariant-loop-key g l =
    (before : List (_ × BTreeSet _)) × (l.patch.entries ≡ before ++ l.key-iterator) × Keeps g.Q.Ord.cmp g.K.Ord.cmp l.fn.map l.map × HavePlaces g.met.Q.Ord.total g.met.Q.Key.exact before l.map
