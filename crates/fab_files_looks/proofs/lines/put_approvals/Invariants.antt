use Rattle.std.proofs.Common.{drop}
use Rattle.std.specs.List.{flat_map}
use Rattle.fab_wire_streams.proofs.Turns.{Gone}
use Rattle.fab_files_looks.specs.Lines.{approval_text}
use Rattle.fab_files_looks.proofs.lines.put_approvals.Given as goal

abbrev pub invariant-loop-approval : goal.invariant-loop-approval
invariant-loop-approval g l = Gone g.S.Sink.took l.fn.sink l.sink (flat_map (approval_text l.revision) l.fn.approvals) (flat_map (approval_text l.revision) (drop l.approval-index l.approvals))
