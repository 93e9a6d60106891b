use Rattle.std.proofs.Common.{◌≡◌, ◌+◌, ◌++◌, drop}
use Rattle.fab_policy_looks.specs.Warnings.{of_rules}
use Rattle.fab_policy_looks.proofs.warnings.add_rules.Given as goal

abbrev pub invariant-loop-place : goal.invariant-loop-place
invariant-loop-place l = l.warnings.items ++ of_rules l.policy (l.place + 1) (drop l.place l.policy.rules) ≡ l.fn.warnings.items ++ of_rules l.policy 1 l.policy.rules
