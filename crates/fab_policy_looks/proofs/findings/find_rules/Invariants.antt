use Rattle.std.proofs.Common.{◌+◌, ◌++◌, List, drop}
use Rattle.fab_policy_looks.specs.Findings.{AreFindings}
use Rattle.fab_policy_looks.specs.declared.found.RuleFinding.{RuleFinding}
use Rattle.fab_policy_looks.proofs.findings.find_rules.Given as goal

abbrev pub invariant-loop-place : goal.invariant-loop-place
invariant-loop-place l = (rest : List RuleFinding) → AreFindings l.policy l.act (l.place + 1) (drop l.place l.policy.rules) rest → AreFindings l.policy l.act 1 l.policy.rules (l.found.items ++ rest)
