-- How many questions a step may ask.
use Rattle.std.specs.Prelude.{ℕ, ◌≡◌, ◌≤◌, ◌<◌, ◌+◌, ◌-◌, min, List, length, Contains}
use Rattle.std.specs.List.Sorted.{IsStrictlySortedBy}
use Rattle.fab_reach_base.specs.Records.{Records}
use Rattle.fab_reach_books.specs.Affected.{Affected, PathsDiffer}
use Rattle.fab_reach_books.specs.Pairs.{Pair, pair_cmp}

-- the greatest count: there it stays
abbrev pub most_asked : ℕ
most_asked = 18446744073709551615

-- pairs with P, each once
pub record AreSome (P : ℕ → ℕ → Type 0) (pairs : List Pair) : Type 0 where
  pub once : IsStrictlySortedBy pair_cmp pairs
  pub sound : (p q : ℕ) → Contains pairs (p, q) → P p q

-- all pairs with P, and maybe others
abbrev pub AreAll : (ℕ → ℕ → Type 0) → List Pair → Type 0
AreAll P pairs = (p q : ℕ) → P p q → Contains pairs (p, q)

-- the count rises by at most the number of affected pairs: however they are listed, they are as many
abbrev pub IsAtMost : Records → Records → ℕ → ℕ → Type 0
IsAtMost w v old new = (pairs : List Pair) → AreAll (Affected w v) pairs → new ≤ old + length pairs

-- and by at least the number of pairs whose paths differ, unless it is the greatest
abbrev pub IsAtLeast : Records → Records → ℕ → ℕ → Type 0
IsAtLeast w v old new = new < most_asked → (pairs : List Pair) → AreSome (PathsDiffer w v) pairs → old + length pairs ≤ new

-- both bounds of a step from one world to the other
pub record IsBounded (w v : Records) (old new : ℕ) : Type 0 where
  pub most : IsAtMost w v old new
  pub least : IsAtLeast w v old new

-- a sight's count went from s to t, which keeps both bounds; and the meter's, from m to n, rose with it
pub record IsMetered (w v : Records) (s t m n : ℕ) : Type 0 where
  pub bounded : IsBounded w v s t
  pub few : t ≤ s + 9223372036854775808
  pub summed : n ≡ min (m + (t - s)) most_asked
