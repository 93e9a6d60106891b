use Rattle.std.proofs.Common.{◌≡◌, map, take}
use Rattle.fab_store_sql.specs.Trees.{show_of}
use Rattle.fab_store_sql.proofs.read.lines_from.Given as goal

abbrev pub invariant-loop-row : goal.invariant-loop-row
invariant-loop-row g l = map g.L.Line.row l.lines.items ≡ map (show_of g.L.Line.place) (take l.row-index l.rows)
