use Rattle.std.proofs.Common.{◌≡◌, ◌++◌, drop}
use Rattle.fab_policy_looks.specs.Warnings.{told}
use Rattle.fab_policy_looks.proofs.warnings.add_each.Given as goal

abbrev pub invariant-loop-warning : goal.invariant-loop-warning
invariant-loop-warning l = l.warnings.items ++ told (drop l.warning-index l.more) ≡ l.fn.warnings.items ++ told l.more
