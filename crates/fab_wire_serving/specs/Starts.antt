-- When connections came.
use Rattle.std.specs.Prelude.{ℕ, List, All}
use Rattle.std.specs.Time.{instant_nanos}
use Rattle.std.specs.declared.time.Instant.{Instant}

-- the clock told each of these times
abbrev pub AreTold : (ℕ → Type 0) → List Instant → Type 0
AreTold tells times = All (λ time. tells (instant_nanos time)) times
