-- The text of a name.
use Rattle.std.specs.Prelude.{ℕ, ◌≡◌, ◌≤◌, Bool, false, ◌&&◌, ◌||◌, nat_le, nat_eq, List, [], ◌∷◌, length, IsTrue}
use Rattle.std.specs.List.{list_all}

-- how many characters a name has at most
abbrev pub most_characters : ℕ
most_characters = 64

-- an ASCII letter
abbrev pub is_letter : ℕ → Bool
is_letter c = (nat_le 65 c && nat_le c 90) || (nat_le 97 c && nat_le c 122)

-- a letter, a digit, or one of _ - $ ^
abbrev pub is_name_char : ℕ → Bool
is_name_char c = is_letter c || ((nat_le 48 c && nat_le c 57) || (nat_eq c 95 || (nat_eq c 45 || (nat_eq c 36 || nat_eq c 94))))

-- the first character is a letter
abbrev pub begins_with_letter : List ℕ → Bool
begins_with_letter [] = false
begins_with_letter (c ∷ cs) = is_letter c

-- 1 to 64 characters, first a letter, then name characters
pub record IsNameText (text : List ℕ) : Type 0 where
  pub short : length text ≤ most_characters
  pub first : IsTrue (begins_with_letter text)
  pub chars : IsTrue (list_all is_name_char text)

-- the text is a name's own characters
abbrev pub SpellsName : List ℕ → List ℕ → Type 0
SpellsName text name = (name ≡ text) × IsNameText text
