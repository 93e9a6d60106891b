use Rattle.std.proofs.Common.{drop}
use Rattle.std.specs.List.{flat_map}
use Rattle.fab_wire_streams.proofs.Turns.{Gone}
use Rattle.fab_program_checks.specs.Notes.{warning_line}
use Rattle.fab_program_checks.proofs.notes.put_warnings.Given as goal

abbrev pub invariant-loop-warning : goal.invariant-loop-warning
invariant-loop-warning g l = Gone g.S.Sink.took l.fn.sink l.sink (flat_map (warning_line l.path) l.fn.warnings) (flat_map (warning_line l.path) (drop l.warning-index l.warnings))
