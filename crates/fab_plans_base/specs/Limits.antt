-- The limits of plan texts.
use Rattle.std.specs.Prelude.{ℕ}

-- how many bytes a plan text has at most, and its printed form
abbrev pub most_bytes : ℕ
most_bytes = 65536

-- how many steps a plan has at most
abbrev pub most_steps : ℕ
most_steps = 200

-- how many items a list of a line has at most, equal ones counted
abbrev pub most_items : ℕ
most_items = 255

-- the greatest logical unit number
abbrev pub last_unit : ℕ
last_unit = 16383
