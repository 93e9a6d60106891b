use Rattle.std.proofs.Common.{◌≡◌, ℕ, List, ◌++◌}
use Rattle.fab_reach_base.specs.Adding.{Adds}
use Rattle.fab_reach_base.proofs.Adding.{Before}
use Rattle.fab_reach_base.specs.Views.{seen}
use Rattle.fab_reach_base.specs.Records.{Records}
use Rattle.fab_reach_books.specs.Rows.{Stands}
use Rattle.fab_reach_moves.specs.Inner.Telling.{IsTold}
use Rattle.fab_reach_moves.specs.declared.lists_after.Listed.TheVariants.{Hosts}
use Rattle.fab_reach_books.specs.Inner.Sets.{HasName}
use Rattle.fab_reach_moves.specs.Inner.Listing.{name_row}
use Rattle.fab_reach_moves.proofs.lists_after.add_hosts_after.Given as goal

abbrev pub invariant-loop-name : goal.invariant-loop-name
invariant-loop-name g l = (before : List (List ℕ)) × (l.initial.name-iterator ≡ before ++ l.name-iterator) × ((v : Records) → IsTold (seen l.before) v l.told → Adds (Before (λ k (h : List ℕ). Stands v (name_row (Hosts k) h)) before) (HasName l.fn.hosts) (HasName l.hosts))
