use Rattle.std.proofs.Common.{◌≡◌, ℕ, List, ◌++◌}
use Rattle.std.specs.FinSet as set
use Rattle.std.specs.Option.{option_copied}
use Rattle.fab_lemmas.specs.MapsOfSets.{in_tree}
use Rattle.fab_names.specs.Orders.{name_cmp}
use Rattle.fab_reach_base.specs.Adding.{Adds}
use Rattle.fab_reach_base.proofs.Adding.{Before}
use Rattle.fab_reach_books.specs.Inner.Sets.{HasName}
use Rattle.fab_reach_moves.proofs.ListsAfter.{IfLeft}
use Rattle.fab_reach_moves.proofs.lists_after.add_hosts_but.Given as goal

abbrev pub invariant-loop-name : goal.invariant-loop-name
invariant-loop-name g l = (listed : List (List ℕ)) × (set.from_list listed ≡ l.group.hosts) × (before : List (List ℕ)) × (listed ≡ before ++ l.name-iterator) × Adds (Before (IfLeft (λ (x : List ℕ). in_tree name_cmp (option_copied l.gone) x)) before) (HasName l.fn.names) (HasName l.names)
