use Rattle.std.proofs.Common.{◌≡◌, ℕ, ◌<◌}
use Rattle.std.specs.Prelude.{IsSomeAnd, slice_get}
use Rattle.fab_program_checks.proofs.deeds.place_of.Given as goal

abbrev pub invariant-loop-i : goal.invariant-loop-i
invariant-loop-i l = (k : ℕ) → k < l.i → ¬ IsSomeAnd (slice_get l.callers k) (λ c. c.name ≡ l.name)
