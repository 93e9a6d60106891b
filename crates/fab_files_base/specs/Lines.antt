-- Lines of cells.
use Rattle.std.specs.Prelude.{ℕ, List, [], ◌∷◌, ◌++◌}

-- cells, each behind a byte, and a line feed
abbrev pub cells_behind : ℕ → List (List ℕ) → List ℕ
cells_behind between [] = 10 ∷ []
cells_behind between (cell ∷ rest) = between ∷ (cell ++ cells_behind between rest)

-- cells with a byte between them, and a line feed
abbrev pub line_of : ℕ → List ℕ → List (List ℕ) → List ℕ
line_of between first rest = first ++ cells_behind between rest
