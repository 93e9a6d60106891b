-- How many rows an active set may have.
use Rattle.std.specs.Prelude.{ℕ}

-- rows of the active set
abbrev pub most_rows : ℕ
most_rows = 65536
