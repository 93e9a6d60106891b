-- The words of a text, which the readers cut off one by one, and the digits of a column of 0 and 1.
use Rattle.std.specs.Prelude.{ℕ, ◌==◌, List, Bool, true, false, codes}
use Rattle.std.specs.List.{slice_split}

-- what stands between single spaces
abbrev pub words_of : List ℕ → List (List ℕ)
words_of text = slice_split (λ c. c == 32) text

-- 0 for no, 1 for yes
abbrev pub digit_text : Bool → List ℕ
digit_text false = codes "0"
digit_text true = codes "1"
