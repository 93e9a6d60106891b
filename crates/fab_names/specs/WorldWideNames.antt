-- The texts of world-wide names.
use Rattle.std.specs.Prelude.{ℕ, ◌≡◌, ◌<◌, ◌+◌, ◌*◌, List, [], ◌∷◌, length, ◌⊎◌, EachIndex, slice_index, true, if◌then◌else◌, nat_lt, ◌/◌, ◌%◌}
use Rattle.std.specs.Char.{is_ascii_hexdigit, digit_value}
use Rattle.std.specs.Int.{w64, from_be_bytes, to_be_bytes}

-- pairs of characters joined by colons
abbrev pub paired : List ℕ → List ℕ
paired [] = []
paired (a ∷ []) = a ∷ []
paired (a ∷ b ∷ []) = a ∷ b ∷ []
paired (a ∷ b ∷ c ∷ ds) = a ∷ b ∷ 58 ∷ paired (c ∷ ds)

-- the text is these characters, plain, after 0x, or in pairs joined by colons
abbrev pub IsDigitsOf : List ℕ → List ℕ → Type 0
IsDigitsOf ds text = (text ≡ ds) ⊎ (text ≡ 48 ∷ 120 ∷ ds) ⊎ (text ≡ paired ds)

-- the number of two digits
abbrev pub byte_of : ℕ → ℕ → ℕ
byte_of a b = digit_value a * 16 + digit_value b

-- the bytes of pairs of digits
abbrev pub bytes_of : List ℕ → List ℕ
bytes_of [] = []
bytes_of (a ∷ []) = []
bytes_of (a ∷ b ∷ ds) = byte_of a b ∷ bytes_of ds

-- the number that sixteen digits write
abbrev pub number_of : List ℕ → ℕ
number_of ds = from_be_bytes w64 (bytes_of ds)

-- sixteen hexadecimal digits of either case that write n, in one of the three forms
pub record SpellsDigits (text : List ℕ) (n : ℕ) : Type 0 where
  pub digits : List ℕ
  pub sixteen : length digits ≡ 16
  pub hexadecimal : EachIndex digits (λ k. is_ascii_hexdigit (slice_index digits k) ≡ true)
  pub form : IsDigitsOf digits text
  pub value : number_of digits ≡ n

-- the text of a world-wide name, which is not zero
abbrev pub SpellsWwn : List ℕ → ℕ → Type 0
SpellsWwn text n = SpellsDigits text n × (0 < n)

-- the places of the colons
pub record HasColons (t : List ℕ) : Type 0 where
  pub c2 : slice_index t 2 ≡ 58
  pub c5 : slice_index t 5 ≡ 58
  pub c8 : slice_index t 8 ≡ 58
  pub c11 : slice_index t 11 ≡ 58
  pub c14 : slice_index t 14 ≡ 58
  pub c17 : slice_index t 17 ≡ 58
  pub c20 : slice_index t 20 ≡ 58

-- a digit of a number below sixteen
abbrev pub hex_digit : ℕ → ℕ
hex_digit d = if nat_lt d 10 then 48 + d else 87 + d

-- two digits for each byte
abbrev pub digits_of : List ℕ → List ℕ
digits_of [] = []
digits_of (b ∷ bs) = hex_digit (b / 16) ∷ hex_digit (b % 16) ∷ digits_of bs

-- sixteen lower-case digits
abbrev pub plain_text : ℕ → List ℕ
plain_text n = digits_of (to_be_bytes w64 n)

-- the text is the name's sixteen lower-case digits
abbrev pub SpellsPlain : List ℕ → ℕ → Type 0
SpellsPlain text n = SpellsWwn text n × (text ≡ plain_text n)

-- eight pairs of lower-case digits joined by colons
abbrev pub wwn_text : ℕ → List ℕ
wwn_text n = paired (digits_of (to_be_bytes w64 n))

-- the text is the printed form of the name
abbrev pub SpellsPrintedWwn : List ℕ → ℕ → Type 0
SpellsPrintedWwn text n = SpellsWwn text n × (text ≡ wwn_text n)
