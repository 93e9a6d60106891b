use Rattle.std.proofs.Common.{drop}
use Rattle.std.specs.List.{flat_map}
use Rattle.fab_wire_streams.proofs.Turns.{Gone}
use Rattle.fab_files_looks.specs.Ways.{path_line}
use Rattle.fab_files_looks.proofs.ways.put_paths.Given as goal

abbrev pub invariant-loop-path : goal.invariant-loop-path
invariant-loop-path g l = Gone g.S.Sink.took l.fn.sink l.sink (flat_map path_line l.fn.paths) (flat_map path_line (drop l.path-index l.paths))
