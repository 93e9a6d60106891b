-- When a window is open.
use Rattle.std.specs.Prelude.{ℕ, ◌+◌, ◌/◌, ◌%◌, Bool, ◌&&◌, not, nat_le, nat_lt, List}
use Rattle.std.specs.List.{list_any}
use Rattle.fab_policy_base.specs.Callers.{is_same}
use Rattle.fab_policy_base.specs.Limits.{week_minutes}
use Rattle.fab_policy_base.specs.Policies.{WindowRow}
use Rattle.fab_policy_base.specs.declared.policy.Freeze.{Freeze}
use Rattle.fab_policy_base.specs.declared.policy.WeekSpan.{WeekSpan}

-- whether the number is at or after the first, and before the second
abbrev pub spans : ℕ → ℕ → ℕ → Bool
spans from until number = nat_le from number && nat_lt number until

-- minutes from Monday 00:00 UTC at a Unix second: the first one was Thursday 00:00, minute 4320
abbrev pub week_minute : ℕ → ℕ
week_minute moment = (moment / 60 + 4320) % week_minutes

-- whether some part of the week holds the minute
abbrev pub is_in_week : List WeekSpan → ℕ → Bool
is_in_week weekly minute = list_any (λ w. spans w.from w.until minute) weekly

-- whether some freeze holds the second
abbrev pub is_frozen : List Freeze → ℕ → Bool
is_frozen freezes moment = list_any (λ f. spans f.from f.until moment) freezes

-- whether some part of the week holds the moment, and no freeze does
abbrev pub is_open : WindowRow → ℕ → Bool
is_open w moment = is_in_week w.weekly (week_minute moment) && not (is_frozen w.freeze moment)

-- whether the window has the name and is open
abbrev pub is_open_as : List ℕ → ℕ → WindowRow → Bool
is_open_as name moment w = is_same w.name name && is_open w moment
