-- Number texts are what `parse` reads, and what is printed of a number.
use Rattle.std.proofs.Common.{ℕ, ◌≡◌, ◌≢◌, ◌≤◌, ◌<◌, ◌^◌, List, [], ◌∷◌, zero, suc, length, get_or, true, Result, Ok, Err, MatchOption, refl, subst, arith, rules, lit<, sym, ◌∙◌}
use Rattle.std.specs.Char.{is_ascii_digit}
use Rattle.std.specs.List.{list_all}
use Rattle.std.specs.Fmt.{decimal}
use Rattle.std.specs.Int.{IsInRange}
use Rattle.std.specs.Str.{IsUtf8}
use Rattle.std.specs.Result.{result_ok, OkIff}
use Rattle.std.specs.Str.Parse.{digits_value, ParsesUnsigned}
use Rattle.std.proofs.lemmas.Fmt.{decimal_is_IsNumeral, length-decimal-le, decimal-digits_value}
use Rattle.std.proofs.lemmas.Str.{IsUtf8-from_ascii}
use Rattle.std.proofs.lemmas.Str.Parse.{IsNumeralModel, numerals_by_value, parse_digits, digits_value_short, not_in_digits, digit_at}
use Rattle.fab_names.specs.Numbers.{SpellsNumber}
use Rattle.fab_names.proofs.Copies.{and_right}

-- ASCII digits, and the number that they write
own : IsNumeralModel (λ ds. list_all is_ascii_digit ds ≡ true) (digits_value 10)
own = numerals_by_value _ (search rules)

-- digits and their number
pub spelled : (text : List ℕ) → list_all is_ascii_digit text ≡ true → 0 < length text → length text ≤ 20 → SpellsNumber text (digits_value 10 text)
spelled text all some few = record { digits = (some, own.to text all); short = few; value = search rules }

-- the characters of a number text are digits
pub all_digits : (text : List ℕ) (n : ℕ) → SpellsNumber text n → list_all is_ascii_digit text ≡ true
all_digits text n s = own.from text s.digits.1

-- what `parse` gives for at most 20 digits, where it gives anything, is their number
pub parsed : {E : Type 0} (text : List ℕ) (r : Result ℕ E) → list_all is_ascii_digit text ≡ true → length text ≤ 20 → ParsesUnsigned 128 10 text r
    → MatchOption (result_ok r) ((n : ℕ) → ¬ SpellsNumber text n) (SpellsNumber text)
parsed text r all few h = by_result text r all few (parse_digits own 128 text r h all)
  where
    by_result : {E : Type 0} (text : List ℕ) (r : Result ℕ E) → list_all is_ascii_digit text ≡ true → length text ≤ 20
        → OkIff r ((0 < length text) × (digits_value 10 text < 2 ^ 128)) (digits_value 10 text) → MatchOption (result_ok r) ((n : ℕ) → ¬ SpellsNumber text n) (SpellsNumber text)
    by_result text (Ok n) all few h = subst (SpellsNumber text) (sym h.1) (spelled text all h.0.0 few)
    by_result text (Err e) all few h = λ n s. h (s.digits.0, omega (arith, digits_value_short own text 20 all few))

-- a number text writes one number
pub one_number : (text : List ℕ) (n m : ℕ) → SpellsNumber text n → SpellsNumber text m → n ≡ m
one_number text n m s t = sym s.value ∙ t.value

-- a character that is no digit is not in a number text
pub not_in_number : (c : ℕ) → ¬ (IsInRange 48 57 c) → (text : List ℕ) (n : ℕ) → SpellsNumber text n → (i : ℕ) → i < length text → get_or text i 0 ≢ c
not_in_number c none text n s i below = not_in_digits own text c (all_digits text n s) none i below

-- a number text is ASCII
pub number_utf8 : (text : List ℕ) → list_all is_ascii_digit text ≡ true → IsUtf8 text
number_utf8 text all = IsUtf8-from_ascii text (λ i. ascii_at text all i)
  where
    ascii_at : (text : List ℕ) → list_all is_ascii_digit text ≡ true → (i : ℕ) → get_or text i 0 < 128
    ascii_at [] all i = lit< tt
    ascii_at (c ∷ text) all zero = let d = own.to (c ∷ text) all in let r = digit_at (c ∷ text) 0 d (omega arith) in omega (arith, r)
    ascii_at (c ∷ text) all (suc i) = ascii_at text (and_right (is_ascii_digit c) (list_all is_ascii_digit text) all) i

-- what is printed of a number is a number text of it
pub printed_number : (n : ℕ) → n < 2 ^ 64 → SpellsNumber (decimal n) n
printed_number n small =
    let numeral = decimal_is_IsNumeral n small in
    record { digits = numeral.0; short = length-decimal-le 20 n (lit< tt) (omega arith) small; value = numeral.1 }

-- a number text with no leading zero before other digits is what is printed of its number
pub plain_number : (text : List ℕ) (n : ℕ) → SpellsNumber text n → n < 2 ^ 64 → ¬ ((get_or text 0 0 ≡ 48) × (2 ≤ length text)) → decimal n ≡ text
plain_number text n s small none =
    subst (λ m. decimal m ≡ text) s.value (decimal-digits_value own text (all_digits text n s) s.digits.0 (λ first. one first (length text) refl s.digits.0) (subst (λ m. m < 2 ^ 64) (sym s.value) small))
  where
    one : get_or text 0 0 ≡ 48 → (k : ℕ) → length text ≡ k → 0 < k → k ≡ 1
    one first zero is some = absurd (omega arith)
    one first (suc zero) is some = refl
    one first (suc (suc k)) is some = absurd (none (first, omega arith))
