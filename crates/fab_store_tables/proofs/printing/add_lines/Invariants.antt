use Rattle.std.proofs.Common.{map, take}
use Rattle.fab_store_tables.specs.Listing.{Adds}
use Rattle.fab_store_tables.proofs.printing.add_lines.Given as goal

abbrev pub invariant-loop-row : goal.invariant-loop-row
invariant-loop-row g l = Adds (map g.R.Row.any (take l.row-index l.rows)) l.fn.lines.items l.lines.items
