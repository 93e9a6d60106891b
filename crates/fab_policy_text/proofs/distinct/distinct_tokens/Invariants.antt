use Rattle.std.proofs.Common.{ℕ, ◌<◌}
use Rattle.fab_policy_base.specs.Sound.{RepeatsAt, caller_tokens}
use Rattle.fab_policy_text.proofs.distinct.distinct_tokens.Given as goal

abbrev pub invariant-loop-i : goal.invariant-loop-i
invariant-loop-i l = (k : ℕ) → k < l.i → ¬ RepeatsAt (caller_tokens l.callers) k
