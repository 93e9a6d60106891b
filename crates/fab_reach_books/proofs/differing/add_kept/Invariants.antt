use Rattle.std.proofs.Common.{◌≡◌, take, Contains, Some}
use Rattle.fab_reach_base.specs.Adding.{Adds}
use Rattle.fab_reach_base.proofs.Adding.{Before}
use Rattle.fab_reach_books.specs.Inner.Telling.{row_in}
use Rattle.fab_reach_books.specs.declared.row.Row.{Row}
use Rattle.fab_store_rows.specs.declared.config_row.ConfigRow.{ConfigRow}
use Rattle.fab_reach_books.proofs.differing.add_kept.Given as goal

abbrev pub invariant-loop-row : goal.invariant-loop-row
invariant-loop-row g l = Adds (Before (λ (k : ConfigRow) (r : Row). row_in k ≡ Some r) (take l.row-index l.these)) (Contains l.fn.rows.items) (Contains l.rows.items)
