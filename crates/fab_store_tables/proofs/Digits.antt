-- The digit of a column of 0 and 1.
use Rattle.std.proofs.Common.{ℕ, ◌≡◌, Bool, true, false, List, get_or, refl, ap, arith, lit<}
use Rattle.std.specs.Fmt.{signed_decimal}
use Rattle.std.proofs.lemmas.Fmt.{decimal_digit}
use Rattle.fab_store_columns_base.specs.Columns.{flag_number}
use Rattle.fab_store_tables.specs.Words.{digit_text}

pub digit_is : (b : Bool) → signed_decimal (flag_number b) ≡ digit_text b
digit_is false = decimal_digit 0 (lit< tt)
digit_is true = decimal_digit 1 (lit< tt)

pub one_digit : (a b : Bool) → digit_text a ≡ digit_text b → a ≡ b
one_digit false false e = refl
one_digit false true e = absurd (omega (arith, ap (λ (x : List ℕ). get_or x 0 0) e))
one_digit true false e = absurd (omega (arith, ap (λ (x : List ℕ). get_or x 0 0) e))
one_digit true true e = refl
