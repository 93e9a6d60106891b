-- Tests that are turned round.
use Rattle.std.proofs.Common.{◌≡◌, Bool, true, false, not, refl, sym}
use mathlib.Core.Bool.{true≢false}

pub not_false : (b : Bool) → not b ≡ false → b ≡ true
not_false true e = refl
not_false false e = absurd (true≢false e)

pub not_true : (b : Bool) → not b ≡ true → ¬ (b ≡ true)
not_true true e h = true≢false (sym e)
not_true false e h = true≢false (sym h)
