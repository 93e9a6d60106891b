use Rattle.std.proofs.Common.{drop}
use Rattle.std.specs.List.{flat_map}
use Rattle.fab_wire_streams.proofs.Turns.{Gone}
use Rattle.fab_files_tries.specs.Names.{spaced}
use Rattle.fab_files_tries.proofs.names.put_names.Given as goal

abbrev pub invariant-loop-name : goal.invariant-loop-name
invariant-loop-name g l = Gone g.S.Sink.took l.fn.sink l.sink (flat_map spaced l.fn.hosts) (flat_map spaced (drop l.name-index l.hosts))
