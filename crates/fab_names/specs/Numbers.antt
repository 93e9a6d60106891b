-- Number texts.
use Rattle.std.specs.Prelude.{ℕ, ◌≡◌, ◌≤◌, List, length}
use Rattle.std.specs.Str.Parse.{IsNumeral, digits_value}

-- how many digits a number text has at most
abbrev pub most_digits : ℕ
most_digits = 20

-- the text is 1 to 20 decimal digits, leading zeros allowed, that write n
pub record SpellsNumber (text : List ℕ) (n : ℕ) : Type 0 where
  pub digits : IsNumeral 10 text
  pub short : length text ≤ most_digits
  pub value : digits_value 10 text ≡ n
