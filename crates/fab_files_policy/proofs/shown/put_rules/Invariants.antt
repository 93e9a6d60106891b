use Rattle.std.proofs.Common.{drop}
use Rattle.std.specs.List.{flat_map}
use Rattle.fab_wire_streams.proofs.Turns.{Gone}
use Rattle.fab_files_policy.specs.Shown.{rule_lines}
use Rattle.fab_files_policy.proofs.shown.put_rules.Given as goal

abbrev pub invariant-loop-rule : goal.invariant-loop-rule
invariant-loop-rule g l = Gone g.S.Sink.took l.fn.sink l.sink (flat_map rule_lines l.fn.rules) (flat_map rule_lines (drop l.rule-index l.rules))
