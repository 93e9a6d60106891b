-- Tests as facts, and facts as tests.
use Rattle.std.proofs.Common.{ℕ, ◌≡◌, ◌<◌, ◌≤◌, ◌&&◌, ◌||◌, ◌⊎◌, inl, inr, Bool, true, false, nat_le, nat_lt, Option, None, Some, is_some, refl, sym, ap, ◌∙◌, arith}
use mathlib.Core.Bool.{true≢false}
use Rattle.std.proofs.lemmas.Bool.Decides.{nat_tests}

-- both tests pass
pub both : {a b : Bool} → a ≡ true → b ≡ true → (a && b) ≡ true
both {a} {b} e f = ap (λ x. x && b) e ∙ f

-- the first of two that pass
pub left : (a b : Bool) → (a && b) ≡ true → a ≡ true
left true b e = refl
left false b e = e

-- the second of two that pass
pub right : (a b : Bool) → (a && b) ≡ true → b ≡ true
right true b e = e
right false b e = absurd (true≢false (sym e))

-- one of two passes where either does
pub or_true : (b c : Bool) → (b || c) ≡ true → (b ≡ true) ⊎ (c ≡ true)
or_true true c e = inl refl
or_true false c e = inr e

pub or_right : (b c : Bool) → c ≡ true → (b || c) ≡ true
or_right true c e = refl
or_right false c e = e

pub or_left : (b c : Bool) → b ≡ true → (b || c) ≡ true
or_left b c e = ap (λ x. x || c) e

-- a test that does not pass
pub is_false : (b : Bool) → ¬ (b ≡ true) → b ≡ false
is_false true h = absurd (h refl)
is_false false h = refl

pub not_true : (b : Bool) → b ≡ false → ¬ (b ≡ true)
not_true b e f = true≢false (sym f ∙ e)

-- a look-up that finds nothing
pub none_from_test : {X : Type 0} (o : Option X) → is_some o ≡ false → o ≡ None
none_from_test None h = refl
none_from_test (Some x) h = absurd (true≢false h)

-- at most
pub within : (n most : ℕ) → n ≤ most → nat_le n most ≡ true
within n most h = grind (arith, nat_tests)

pub from_within : (n most : ℕ) → nat_le n most ≡ true → n ≤ most
from_within n most h = grind (arith, nat_tests)

-- below
pub below : (n most : ℕ) → n < most → nat_lt n most ≡ true
below n most h = grind (arith, nat_tests)

pub from_below : (n most : ℕ) → nat_lt n most ≡ true → n < most
from_below n most h = grind (arith, nat_tests)
