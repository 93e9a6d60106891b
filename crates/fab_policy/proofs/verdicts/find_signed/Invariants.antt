use Rattle.std.proofs.Common.{◌≡◌, length, take}
use Rattle.fab_policy.specs.Found.{marks}
use Rattle.fab_policy.proofs.verdicts.find_signed.Given as goal

abbrev pub invariant-loop-i : goal.invariant-loop-i
invariant-loop-i l = (length l.signed ≡ 256) × (take l.i l.signed ≡ marks l.act l.fresh (take l.i l.callers))
