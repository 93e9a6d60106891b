use Rattle.std.proofs.Common.{◌≡◌, ℕ, List, ◌++◌}
use Rattle.fab_reach_base.specs.Adding.{Adds}
use Rattle.fab_reach_base.proofs.Adding.{Before}
use Rattle.fab_reach_books.specs.Inner.Sets.{HasPairIn, HasPortIn}
use Rattle.fab_reach_books.specs.Pairs.{Pair}
use Rattle.fab_reach_pairs.proofs.loose.add_product.Given as goal

abbrev pub invariant-loop-port : goal.invariant-loop-port
invariant-loop-port g l = (before : List ℕ) × (l.initial.port-iterator ≡ before ++ l.port-iterator) × Adds (Before (λ p (e : Pair). HasPortIn l.targets e.1 × (e.0 ≡ p)) before) (HasPairIn l.fn.pairs) (HasPairIn l.pairs)
