use Rattle.std.proofs.Common.{◌≡◌, List, ℕ, [], ◌++◌}
use Rattle.std.specs.BTreeSet.{BTreeSet}
use Rattle.fab_reach_base.specs.Adding.{Adds}
use Rattle.fab_reach_base.proofs.Adding.{Before}
use Rattle.fab_desk_base.specs.Showing.{IsOpenTo}
use Rattle.fab_desk_base.specs.Tenants.{Has}
use Rattle.fab_looks.specs.Lists.{query_of}
use Rattle.fab_looks.proofs.Opens.{ByOpen}
use Rattle.fab_looks.proofs.listing.open_names.Given as goal

abbrev pub invariant-loop-name : goal.invariant-loop-name
invariant-loop-name g l =
    (first : BTreeSet (List ℕ)) × (first.keys ≡ []) × (before : List _) × (l.fn.entries ≡ before ++ l.name-iterator) × Adds (Before (ByOpen (λ n. IsOpenTo l.policy l.world l.id (query_of l.kind n))) before) (Has first) (Has l.names)
