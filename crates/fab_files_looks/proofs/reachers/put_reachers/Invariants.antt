use Rattle.std.proofs.Common.{drop}
use Rattle.std.specs.List.{flat_map}
use Rattle.fab_wire_streams.proofs.Turns.{Gone}
use Rattle.fab_files_looks.specs.Reachers.{reacher_line}
use Rattle.fab_files_looks.proofs.reachers.put_reachers.Given as goal

abbrev pub invariant-loop-reacher : goal.invariant-loop-reacher
invariant-loop-reacher g l = Gone g.S.Sink.took l.fn.sink l.sink (flat_map reacher_line l.fn.reachers) (flat_map reacher_line (drop l.reacher-index l.reachers))
