use Rattle.std.proofs.Common.{drop}
use Rattle.std.specs.List.{flat_map}
use Rattle.fab_wire_streams.proofs.Turns.{Gone}
use Rattle.fab_files_policy.specs.Shown.{span_line}
use Rattle.fab_files_policy.proofs.shown.put_spans.Given as goal

abbrev pub invariant-loop-span : goal.invariant-loop-span
invariant-loop-span g l = Gone g.S.Sink.took l.fn.sink l.sink (flat_map span_line l.fn.spans) (flat_map span_line (drop l.span-index l.spans))
