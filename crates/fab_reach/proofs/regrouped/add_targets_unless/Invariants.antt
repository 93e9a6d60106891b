use Rattle.std.proofs.Common.{◌≡◌, ℕ, List, ◌++◌}
use Rattle.fab_reach_base.specs.Adding.{Adds}
use Rattle.fab_reach_base.proofs.Adding.{Before}
use Rattle.fab_reach_books.specs.Inner.Sets.{HasPairIn}
use Rattle.fab_reach_books.specs.Pairs.{Pair}
use Rattle.fab_reach.proofs.Regroups.{IsAlike}
use Rattle.fab_reach.proofs.regrouped.add_targets_unless.Given as goal

abbrev pub invariant-loop-target : goal.invariant-loop-target
invariant-loop-target g l = (before : List ℕ) × (l.initial.target-iterator ≡ before ++ l.target-iterator) × Adds (Before (λ q (e : Pair). ¬ IsAlike l.other.ports l.other.targets l.same_units e × (e ≡ (l.initiator, q))) before) (HasPairIn l.fn.pairs) (HasPairIn l.pairs)
