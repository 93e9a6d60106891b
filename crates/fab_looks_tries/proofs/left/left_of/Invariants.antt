use Rattle.std.proofs.Common.{◌≡◌, List, ℕ, [], ◌++◌}
use Rattle.std.specs.BTreeSet.{BTreeSet}
use Rattle.fab_desk_machine.specs.fab_desk_base.Tenants.{Has}
use Rattle.fab_looks_tries.specs.Hosts.{IsOnOneFabric, IsWithoutPath}
use Rattle.fab_looks_tries.proofs.Leaving.{By}
use Rattle.fab_reach_base.specs.Adding.{Adds}
use Rattle.fab_reach_base.specs.Records.{Records}
use Rattle.fab_reach_base.proofs.Adding.{Before}
use Rattle.fab_looks_tries.proofs.left.left_of.Given as goal

abbrev pub invariant-loop-host : goal.invariant-loop-host
invariant-loop-host g l =
    (s : BTreeSet (List ℕ)) × (t : BTreeSet (List ℕ)) × (s.keys ≡ []) × (t.keys ≡ []) × (before : List (List ℕ)) × (l.fn.hosts.keys ≡ before ++ l.host-iterator)
    × ((v : Records) → g.B.PathBook.stands l.book v → Adds (Before (By (IsOnOneFabric v)) before) (Has s) (Has l.on_one) × Adds (Before (By (IsWithoutPath v)) before) (Has t) (Has l.without))
