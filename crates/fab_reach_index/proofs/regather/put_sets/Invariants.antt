use Rattle.std.proofs.Common.{◌≡◌, ◌++◌, List}
use Rattle.std.specs.BTreeMap.{get}
use Rattle.std.specs.BTreeSet.{BTreeSet}
use Rattle.std.specs.Option.{IsSome}
use Rattle.fab_reach_index.specs.Inner.Regathering.{AreLeft}
use Rattle.fab_reach_index.proofs.Patching.{HavePlaces}
use Rattle.fab_reach_index.proofs.regather.put_sets.Given as goal

abbrev pub invariant-loop-key : goal.invariant-loop-key
invariant-loop-key g l =
    (before : List (_ × BTreeSet _)) × (l.keys.entries ≡ before ++ l.key-iterator) × (AreLeft g.Q.Ord.cmp g.K.Ord.cmp l.old l.gone l.come l.fn.sets → AreLeft g.Q.Ord.cmp g.K.Ord.cmp l.old l.gone l.come l.sets)
    × ((q : _) → IsSome (get g.Q.Ord.cmp l.fn.sets q) → IsSome (get g.Q.Ord.cmp l.sets q)) × HavePlaces g.met.Q.Ord.total g.met.Q.Key.exact before l.sets
