use Rattle.std.proofs.Common.{drop}
use Rattle.std.specs.List.{flat_map}
use Rattle.fab_wire_streams.proofs.Turns.{Gone}
use Rattle.fab_files_looks.specs.Reachers.{next_text}
use Rattle.fab_files_looks.proofs.reachers.put_rest.Given as goal

abbrev pub invariant-loop-name : goal.invariant-loop-name
invariant-loop-name g l = Gone g.S.Sink.took l.fn.sink l.sink (flat_map next_text l.fn.names) (flat_map next_text (drop l.name-index l.names))
