use Rattle.std.proofs.Common.{◌≡◌, ℕ, List, ◌++◌}
use Rattle.fab_reach_base.specs.Adding.{Adds}
use Rattle.fab_reach_base.proofs.Adding.{Before}
use Rattle.fab_reach_books.specs.Inner.Sets.{HasName}
use Rattle.fab_reach_moves.proofs.groups.add_names.Given as goal

abbrev pub invariant-loop-name : goal.invariant-loop-name
invariant-loop-name g l = (before : List (List ℕ)) × (l.initial.name-iterator ≡ before ++ l.name-iterator) × Adds (Before (λ k (n : List ℕ). n ≡ k) before) (HasName l.fn.names) (HasName l.names)
