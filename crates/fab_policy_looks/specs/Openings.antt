-- When a window opens.
use Rattle.std.specs.Prelude.{◌≡◌, ◌≤◌, ◌<◌, ◌^◌, ℕ, true, false, List, Option, Some, None}
use Rattle.fab_policy_base.specs.Policies.{WindowRow}
use Rattle.fab_policy.specs.Verdicts.{meets_window}

-- the first moment from one on at which a window of the name is open; none where it is not at any moment that has 64 bits
abbrev pub IsOpening : List WindowRow → List ℕ → ℕ → Option ℕ → Type 0
IsOpening ws name from None = (k : ℕ) → from ≤ k → k < 2 ^ 64 → meets_window ws k (Some name) ≡ false
IsOpening ws name from (Some m) = (from ≤ m) × (meets_window ws m (Some name) ≡ true) × ((k : ℕ) → from ≤ k → k < m → meets_window ws k (Some name) ≡ false)
