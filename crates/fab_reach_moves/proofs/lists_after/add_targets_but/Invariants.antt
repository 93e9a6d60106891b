use Rattle.std.proofs.Common.{◌≡◌, ℕ, List, ◌++◌}
use Rattle.std.specs.FinSet as set
use Rattle.std.specs.Option.{option_copied}
use Rattle.std.specs.Ordering.{nat_cmp}
use Rattle.fab_lemmas.specs.MapsOfSets.{in_tree}
use Rattle.fab_reach_base.specs.Adding.{Adds}
use Rattle.fab_reach_base.proofs.Adding.{Before}
use Rattle.fab_reach_books.specs.Inner.Sets.{HasPortIn}
use Rattle.fab_reach_moves.proofs.ListsAfter.{IfLeft}
use Rattle.fab_reach_moves.proofs.lists_after.add_targets_but.Given as goal

abbrev pub invariant-loop-target : goal.invariant-loop-target
invariant-loop-target g l = (listed : List (ℕ)) × (set.from_list listed ≡ l.group.targets) × (before : List (ℕ)) × (listed ≡ before ++ l.target-iterator) × Adds (Before (IfLeft (λ (x : ℕ). in_tree nat_cmp (option_copied l.gone) x)) before) (HasPortIn l.fn.ports) (HasPortIn l.ports)
