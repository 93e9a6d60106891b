use Rattle.std.proofs.Common.{◌≡◌, ℕ, List, ◌++◌}
use Rattle.fab_reach_base.specs.Adding.{Adds}
use Rattle.fab_reach_base.proofs.Adding.{Before}
use Rattle.fab_reach_books.specs.Inner.Sets.{HasPairIn, HasPortIn}
use Rattle.fab_reach_books.specs.Pairs.{Pair}
use Rattle.fab_reach.proofs.Regroups.{IsAlike}
use Rattle.fab_reach.proofs.regrouped.add_unless.Given as goal

abbrev pub invariant-loop-initiator : goal.invariant-loop-initiator
invariant-loop-initiator g l = (before : List ℕ) × (l.initial.initiator-iterator ≡ before ++ l.initiator-iterator) × Adds (Before (λ p (e : Pair). HasPortIn l.targets e.1 × ¬ IsAlike l.other.ports l.other.targets l.same_units e × (e.0 ≡ p)) before) (HasPairIn l.fn.pairs) (HasPairIn l.pairs)
