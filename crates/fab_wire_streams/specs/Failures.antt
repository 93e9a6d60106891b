-- How many reads and writes have failed.
use Rattle.std.specs.Prelude.{ℕ, ◌+◌, ◌-◌, ◌^◌, ◌<◌, ◌≤◌, ◌⊎◌, ◌==◌, ◌&&◌, nat_lt, if◌then◌else◌, Result, Ok, Err}

-- one failure more; the greatest count stays
abbrev pub one_more : ℕ → ℕ
one_more count = if nat_lt count (2 ^ 64 - 1) then count + 1 else count

-- the count rose, or stands at its greatest
abbrev pub Rose : ℕ → ℕ → Type 0
Rose before after = (before < after) ⊎ (2 ^ 64 - 1 ≤ after)

-- the count after something that fails at its first failed read or write, and only there
abbrev pub failures_after : {V E : Type 0} → Result V E → ℕ → ℕ
failures_after (Ok value) before = before
failures_after (Err fault) before = one_more before

-- the count after a write of so many bytes: one that takes none of some has failed
abbrev pub failures_after_write : {E : Type 0} → Result ℕ E → ℕ → ℕ → ℕ
failures_after_write (Ok taken) size before = if (taken == 0) && nat_lt 0 size then one_more before else before
failures_after_write (Err fault) size before = one_more before
