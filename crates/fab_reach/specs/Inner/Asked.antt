-- What a step asks. No public contract of the room names anything of this file.
use Rattle.std.specs.Prelude.{ℕ, ◌≤◌, ◌+◌}
use Rattle.fab_reach_base.specs.Records.{Records}
use Rattle.fab_reach_books.specs.Counts.{IsBounded}

-- a sight's count went from s to t, which keeps both bounds, and no list of pairs is longer
pub record IsAsked (w v : Records) (s t : ℕ) : Type 0 where
  pub bounded : IsBounded w v s t
  pub few : t ≤ s + 9223372036854775808
