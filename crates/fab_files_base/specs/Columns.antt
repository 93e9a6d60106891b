-- Columns of a fixed width.
use Rattle.std.specs.Prelude.{ℕ, ◌-◌, List, [], ◌∷◌, ◌++◌, length, replicate}
use Rattle.std.specs.List.{flat_map}
use Rattle.fab_files_base.specs.Lines.{line_of}

-- how wide the columns of names and of counts are
abbrev pub name_width : ℕ
name_width = 24

abbrev pub count_width : ℕ
count_width = 6

-- a text at the left or at the right of a column, with spaces beside it; a longer text is not cut
abbrev pub left : ℕ → List ℕ → List ℕ
left width text = text ++ replicate (width - length text) 32

abbrev pub right : ℕ → List ℕ → List ℕ
right width text = replicate (width - length text) 32 ++ text

-- a host, a volume, two counts and a state, with one space between columns
unfoldable pub row_line : List ℕ → List ℕ → List ℕ → List ℕ → List ℕ → List ℕ
row_line host volume over_a over_b state =
    line_of 32 (left name_width host) (left name_width volume ∷ right count_width over_a ∷ right count_width over_b ∷ state ∷ [])

-- texts at the left of their columns, one space behind each, and a last text
unfoldable pub columns_line : List (List ℕ) → List ℕ → List ℕ
columns_line cells last = flat_map (λ cell. left name_width cell ++ 32 ∷ []) cells ++ (last ++ 10 ∷ [])
