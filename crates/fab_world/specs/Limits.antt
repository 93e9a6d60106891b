-- The limits of a world.
use Rattle.std.specs.Prelude.{ℕ}

-- how many plans it has at most, in whatever state
abbrev pub most_plans : ℕ
most_plans = 100000

-- how many changes it counts at most: the greatest revision
abbrev pub most_changes : ℕ
most_changes = 1000000000
