use Rattle.std.proofs.Common.{◌≡◌, ℕ, List, ◌++◌}
use Rattle.std.specs.FinMap as map
use Rattle.fab_inventory.specs.declared.holder.Holder.{Holder}
use Rattle.fab_reach_base.specs.Views.{seen}
use Rattle.fab_reach_base.proofs.Adding.{Before}
use Rattle.fab_reach_books.specs.Inner.Telling.{Tells}
use Rattle.fab_reach_books.proofs.RowsTold.{Of, holder_at_entry}
use Rattle.fab_reach_books.proofs.differing.add_holders.Given as goal

abbrev pub invariant-loop-name : goal.invariant-loop-name
invariant-loop-name g l =
    (listed : List (List ℕ × Holder)) × (listed ≡ map.entries (seen l.view).inventory.holders) × (before : List (List ℕ × Holder)) × (listed ≡ before ++ l.name-iterator)
    × Tells (seen l.other) (Before (Of (seen l.other) (holder_at_entry (seen l.other))) before) l.fn.rows.items l.rows.items
