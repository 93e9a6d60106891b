-- How many characters a text of name characters has.
use Rattle.std.proofs.Common.{ℕ, ◌≡◌, ◌<◌, List, length, true, ap, arith}
use Rattle.std.specs.List.{list_all}
use Rattle.std.specs.Str.{chars}
use Rattle.std.proofs.lemmas.Str.{chars-IsAscii}
use Rattle.fab_names.specs.Names.{is_name_char, IsNameText}
use Rattle.fab_names.proofs.Copies.{ascii_all}

-- as many as bytes
pub as_many : (text : List ℕ) → list_all is_name_char text ≡ true → length (chars text) ≡ length text
as_many text all = ap length (chars-IsAscii text (ascii_all text all))

-- a text of more characters is no name
pub too_long : (text : List ℕ) → 64 < length (chars text) → ¬ IsNameText text
too_long text long name = omega (arith, as_many text name.chars, name.short)
