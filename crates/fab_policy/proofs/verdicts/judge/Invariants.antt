use Rattle.std.proofs.Common.{◌≡◌}
use Rattle.fab_policy.specs.Found.{IsKnown}
use Rattle.fab_policy.proofs.Walk.{AreSeen}
use Rattle.fab_policy.proofs.verdicts.judge.Given as goal

abbrev pub invariant-loop-i : goal.invariant-loop-i
invariant-loop-i l = (l.rule-items ≡ l.policy.rules) × AreSeen l.policy l.act l.applied l.i × IsKnown l.policy l.act l.known
