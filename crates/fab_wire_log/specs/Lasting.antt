-- How long connections last.
use Rattle.std.specs.Prelude.{ℕ, ◌*◌}

-- how long one is given for its request, and then for its answer, in nanoseconds: 27 seconds
abbrev pub most_lasting : ℕ
most_lasting = 27 * 1_000_000_000
