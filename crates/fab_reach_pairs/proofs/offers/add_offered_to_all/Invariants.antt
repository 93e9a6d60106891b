use Rattle.std.proofs.Common.{◌≡◌, ℕ, List, ◌++◌}
use Rattle.fab_reach_base.specs.Adding.{Adds}
use Rattle.fab_reach_base.proofs.Adding.{Before}
use Rattle.fab_reach_books.specs.Inner.Sets.{HasPairIn}
use Rattle.fab_reach_books.specs.Pairs.{Pair}
use Rattle.fab_reach_pairs.specs.Inner.Offering.{IsPortServedAt}
use Rattle.fab_reach_pairs.proofs.offers.add_offered_to_all.Given as goal

abbrev pub invariant-loop-target : goal.invariant-loop-target
invariant-loop-target g l = (before : List ℕ) × (l.initial.target-iterator ≡ before ++ l.target-iterator) × Adds (Before (λ q (e : Pair). IsPortServedAt l.mapping l.index.held l.index.targeted q e.0 × (e.1 ≡ q)) before) (HasPairIn l.fn.pairs) (HasPairIn l.pairs)
