use Rattle.std.proofs.Common.{drop}
use Rattle.std.specs.List.{flat_map}
use Rattle.fab_wire_streams.proofs.Turns.{Gone}
use Rattle.fab_files_tries.specs.Plans.{row_line}
use Rattle.fab_files_tries.proofs.plans.put_rows.Given as goal

abbrev pub invariant-loop-row : goal.invariant-loop-row
invariant-loop-row g l = Gone g.S.Sink.took l.fn.sink l.sink (flat_map (row_line l.sign) l.fn.rows) (flat_map (row_line l.sign) (drop l.row-index l.rows))
