-- How great a number a database keeps.
use Rattle.std.specs.Prelude.{ℕ}

-- the greatest whole number that a database keeps, in 64 bits with a sign
abbrev pub most_number : ℕ
most_number = 9223372036854775807
