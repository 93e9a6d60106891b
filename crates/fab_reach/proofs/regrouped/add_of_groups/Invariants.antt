use Rattle.std.proofs.Common.{◌≡◌, ℕ, List, ◌++◌}
use Rattle.fab_reach_base.specs.Adding.{Adds}
use Rattle.fab_reach_base.proofs.Adding.{Before}
use Rattle.fab_reach_base.specs.Views.{seen}
use Rattle.fab_reach_base.specs.Records.{Records}
use Rattle.fab_reach_moves.specs.Inner.Telling.{IsTold}
use Rattle.fab_reach_books.specs.Inner.Sets.{HasPairIn}
use Rattle.fab_reach_books.specs.Pairs.{Pair}
use Rattle.fab_reach.specs.Inner.Regrouping.{IsOfferedOtherwise}
use Rattle.fab_reach.proofs.regrouped.add_of_groups.Given as goal

abbrev pub invariant-loop-name : goal.invariant-loop-name
invariant-loop-name g l = (before : List (List ℕ)) × (l.initial.name-iterator ≡ before ++ l.name-iterator) × ((v : Records) → IsTold (seen l.before) v l.told → Adds (Before (λ n (e : Pair). IsOfferedOtherwise (seen l.before) v n e.0 e.1) before) (HasPairIn l.fn.pairs) (HasPairIn l.pairs))
