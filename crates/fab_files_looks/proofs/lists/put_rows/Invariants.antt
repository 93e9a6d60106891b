use Rattle.std.proofs.Common.{drop}
use Rattle.std.specs.List.{flat_map}
use Rattle.fab_wire_streams.proofs.Turns.{Gone}
use Rattle.fab_files_looks.specs.Lines.{listed_lines}
use Rattle.fab_files_looks.proofs.lists.put_rows.Given as goal

abbrev pub invariant-loop-row : goal.invariant-loop-row
invariant-loop-row g l = Gone g.S.Sink.took l.fn.sink l.sink (flat_map (listed_lines l.revision) l.fn.rows) (flat_map (listed_lines l.revision) (drop l.row-index l.rows))
