-- The schema of the tables.
use Rattle.std.specs.Prelude.{ℕ}

-- the schema of the tables that a desk writes, in which ports have addresses
abbrev pub present_schema : ℕ
present_schema = 2
