use Rattle.std.proofs.Common.{drop}
use Rattle.std.specs.List.{flat_map}
use Rattle.fab_wire_streams.proofs.Turns.{Gone}
use Rattle.fab_files_policy.specs.Shown.{item_line}
use Rattle.fab_files_policy.proofs.shown.put_names.Given as goal

abbrev pub invariant-loop-name : goal.invariant-loop-name
invariant-loop-name g l = Gone g.S.Sink.took l.fn.sink l.sink (flat_map item_line l.fn.names) (flat_map item_line (drop l.name-index l.names))
