use Rattle.std.proofs.Common.{◌≡◌, ℕ, List, ◌++◌, false}
use Rattle.fab_reach_base.specs.Adding.{Adds}
use Rattle.fab_reach_base.proofs.Adding.{Before}
use Rattle.std.specs.BTreeSet.{contains}
use Rattle.fab_names.specs.Orders.{name_cmp}
use Rattle.fab_reach_books.specs.Inner.Sets.{HasName}
use Rattle.fab_reach_pairs.proofs.initiators.add_kept.Given as goal

abbrev pub invariant-loop-name : goal.invariant-loop-name
invariant-loop-name g l = (before : List (List ℕ)) × (l.initial.name-iterator ≡ before ++ l.name-iterator) × Adds (Before (λ k (n : List ℕ). (n ≡ k) × (contains name_cmp l.touched n ≡ false)) before) (HasName l.fn.names) (HasName l.names)
