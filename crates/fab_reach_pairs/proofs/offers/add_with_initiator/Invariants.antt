use Rattle.std.proofs.Common.{◌≡◌, ℕ, List, ◌++◌}
use Rattle.fab_reach_base.specs.Adding.{Adds}
use Rattle.fab_reach_base.proofs.Adding.{Before}
use Rattle.fab_reach_books.specs.Inner.Sets.{HasPairIn}
use Rattle.fab_reach_books.specs.Pairs.{Pair}
use Rattle.fab_reach_pairs.proofs.offers.add_with_initiator.Given as goal

abbrev pub invariant-loop-port : goal.invariant-loop-port
invariant-loop-port g l = (before : List ℕ) × (l.initial.port-iterator ≡ before ++ l.port-iterator) × Adds (Before (λ q (e : Pair). e ≡ (l.initiator, q)) before) (HasPairIn l.fn.pairs) (HasPairIn l.pairs)
