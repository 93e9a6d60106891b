use Rattle.std.proofs.Common.{drop}
use Rattle.std.specs.List.{flat_map}
use Rattle.fab_wire_streams.proofs.Turns.{Gone}
use Rattle.fab_files_policy.specs.Shown.{caller_lines}
use Rattle.fab_files_policy.proofs.shown.put_callers.Given as goal

abbrev pub invariant-loop-caller : goal.invariant-loop-caller
invariant-loop-caller g l = Gone g.S.Sink.took l.fn.sink l.sink (flat_map caller_lines l.fn.callers) (flat_map caller_lines (drop l.caller-index l.callers))
