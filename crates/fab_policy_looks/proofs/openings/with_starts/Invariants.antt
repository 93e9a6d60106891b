use Rattle.std.proofs.Common.{◌≡◌, drop}
use Rattle.fab_policy_looks.specs.Inner.Candidates.{with_starts}
use Rattle.fab_policy_looks.proofs.openings.with_starts.Given as goal

abbrev pub invariant-loop-span : goal.invariant-loop-span
invariant-loop-span l = with_starts l.window l.base l.best (drop l.span-index l.window.weekly) ≡ with_starts l.window l.base l.fn.best l.window.weekly
