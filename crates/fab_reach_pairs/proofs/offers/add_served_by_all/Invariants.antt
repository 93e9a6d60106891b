use Rattle.std.proofs.Common.{◌≡◌, ℕ, List, ◌++◌}
use Rattle.fab_reach_base.specs.Adding.{Adds}
use Rattle.fab_reach_base.proofs.Adding.{Before}
use Rattle.fab_reach_books.specs.Inner.Sets.{HasPairIn}
use Rattle.fab_reach_books.specs.Pairs.{Pair}
use Rattle.fab_reach_pairs.specs.Inner.Offering.{IsPortServedBy}
use Rattle.fab_reach_pairs.proofs.offers.add_served_by_all.Given as goal

abbrev pub invariant-loop-name : goal.invariant-loop-name
invariant-loop-name g l = (before : List (List ℕ)) × (l.initial.name-iterator ≡ before ++ l.name-iterator) × Adds (Before (λ n (e : Pair). IsPortServedBy l.mapping l.held n e.0 × (e.1 ≡ l.target)) before) (HasPairIn l.fn.pairs) (HasPairIn l.pairs)
