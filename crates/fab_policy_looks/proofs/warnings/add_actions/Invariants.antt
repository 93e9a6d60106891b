use Rattle.std.proofs.Common.{◌≡◌, ◌++◌, drop}
use Rattle.fab_policy_looks.specs.Warnings.{of_actions}
use Rattle.fab_policy_looks.proofs.warnings.add_actions.Given as goal

abbrev pub invariant-loop-action : goal.invariant-loop-action
invariant-loop-action l = l.warnings.items ++ of_actions l.rules (drop l.action-index l.actions) ≡ l.fn.warnings.items ++ of_actions l.rules l.actions
