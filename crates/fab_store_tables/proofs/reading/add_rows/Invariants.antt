use Rattle.std.proofs.Common.{take}
use Rattle.fab_store_tables.specs.Reading.{AddsShown}
use Rattle.fab_store_tables.proofs.reading.add_rows.Given as goal

abbrev pub invariant-loop-line : goal.invariant-loop-line
invariant-loop-line g l = AddsShown g.L.Line.shows (take l.line-index l.lines) l.fn.rows.items l.rows.items
