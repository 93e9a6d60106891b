use Rattle.std.proofs.Common.{◌≡◌, ◌⊎◌, ℕ, List, ◌++◌}
use Rattle.fab_reach_base.specs.Adding.{Adds}
use Rattle.fab_reach_base.specs.Views.{seen}
use Rattle.fab_reach_base.specs.Records.{Records}
use Rattle.fab_reach_base.proofs.Adding.{Before}
use Rattle.fab_reach_moves.specs.Moves.{AreTouched}
use Rattle.fab_reach_books.specs.Inner.Sets.{HasPairIn}
use Rattle.fab_reach_books.specs.Inner.Moving.{IsOffered}
use Rattle.fab_reach_pairs.specs.Inner.Offering.{IsOfferedByKept}
use Rattle.fab_reach_books.specs.Pairs.{Pair}
use Rattle.fab_reach_moves.specs.Inner.Telling.{IsTold}
use Rattle.fab_reach_pairs.proofs.initiators.add_of_initiators.Given as goal

abbrev pub invariant-loop-name : goal.invariant-loop-name
invariant-loop-name g l =
    (before : List ℕ) × (l.initial.name-iterator ≡ before ++ l.name-iterator)
    × ((v : Records) → IsTold (seen l.before) v l.told → AreTouched (seen l.before) v l.touched
    → Adds (Before (λ p (e : Pair). (IsOffered (seen l.before) e.0 e.1 ⊎ IsOfferedByKept v l.touched e.0 e.1) × (e.0 ≡ p)) before) (HasPairIn l.fn.pairs) (HasPairIn l.pairs))
