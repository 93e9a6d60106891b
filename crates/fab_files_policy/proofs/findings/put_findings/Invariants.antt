use Rattle.std.proofs.Common.{drop}
use Rattle.std.specs.List.{flat_map}
use Rattle.fab_wire_streams.proofs.Turns.{Gone}
use Rattle.fab_files_policy.specs.Findings.{finding_lines}
use Rattle.fab_files_policy.proofs.findings.put_findings.Given as goal

abbrev pub invariant-loop-found : goal.invariant-loop-found
invariant-loop-found g l = Gone g.S.Sink.took l.fn.sink l.sink (flat_map finding_lines l.fn.findings) (flat_map finding_lines (drop l.found-index l.findings))
