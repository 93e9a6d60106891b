use Rattle.std.proofs.Common.{◌≡◌, ℕ, ◌<◌}
use Rattle.std.specs.Prelude.{IsSomeAnd, slice_get}
use Rattle.fab_policy_base.proofs.caller.place_of.Given as goal

abbrev pub invariant-loop-i : goal.invariant-loop-i
invariant-loop-i l = (k : ℕ) → k < l.i → ¬ IsSomeAnd (slice_get l.callers k) (λ c. c.token ≡ l.token)
