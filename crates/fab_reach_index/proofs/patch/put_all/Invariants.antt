use Rattle.std.proofs.Common.{◌≡◌, ◌++◌, List}
use Rattle.std.specs.BTreeSet.{BTreeSet}
use Rattle.fab_reach_index.specs.Patches.{HasRoomFor}
use Rattle.fab_reach_index.proofs.Patching.{Puts}
use Rattle.fab_reach_index.proofs.patch.put_all.Given as goal

abbrev pub invariant-loop-key : goal.invariant-loop-key
invariant-loop-key g l =
    (before : List (_ × BTreeSet _)) × (l.fn.patch.entries ≡ before ++ l.key-iterator) × (HasRoomFor g.Q.Ord.cmp l.fn.patch l.fn.map → Puts g.met.Q.Ord.total g.met.Q.Key.exact before l.fn.map l.map)
