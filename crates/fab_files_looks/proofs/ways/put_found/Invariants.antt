use Rattle.std.proofs.Common.{drop}
use Rattle.std.specs.List.{flat_map}
use Rattle.fab_wire_streams.proofs.Turns.{Gone}
use Rattle.fab_files_looks.specs.Ways.{found_line}
use Rattle.fab_files_looks.proofs.ways.put_found.Given as goal

abbrev pub invariant-loop-shown : goal.invariant-loop-shown
invariant-loop-shown g l = Gone g.S.Sink.took l.fn.sink l.sink (flat_map found_line l.fn.found) (flat_map found_line (drop l.shown-index l.found))
