use Rattle.std.proofs.Common.{◌≡◌, ℕ, List, ◌++◌}
use Rattle.std.specs.BTreeSet.{BTreeSet}
use Rattle.fab_reach_base.specs.Adding.{Adds}
use Rattle.fab_reach_base.specs.Views.{seen}
use Rattle.fab_reach_base.proofs.Adding.{Before}
use Rattle.fab_reach_books.specs.Inner.Sets.{HasPairIn}
use Rattle.fab_reach_index.specs.Inner.Holding.{HoldsIn}
use Rattle.fab_reach_pairs.specs.Inner.Offering.{IsLoose}
use Rattle.fab_reach_books.specs.Pairs.{Pair}
use Rattle.fab_reach_base.specs.Gathering.{IsTargeted}
use Rattle.fab_reach_pairs.proofs.loose.add_loose_pairs.Given as goal

abbrev pub invariant-loop-host : goal.invariant-loop-host
invariant-loop-host g l =
    (before : List (List ℕ × BTreeSet (List ℕ))) × (l.index.groups.entries ≡ before ++ l.host-iterator)
    × Adds (Before (λ k (e : Pair). HoldsIn l.index.held k.0 e.0 × IsTargeted (seen l.view).config.mapping k.1 e.1 × IsLoose (seen l.view) l.fabric e.0 × IsLoose (seen l.view) l.fabric e.1) before) (HasPairIn l.fn.pairs) (HasPairIn l.pairs)
