-- The moments among which the first is at which a window opens, of which private clauses speak.
use Rattle.std.specs.Prelude.{ℕ, ◌+◌, ◌-◌, ◌*◌, ◌%◌, ◌^◌, ◌&&◌, nat_lt, nat_le, if◌then◌else◌, List, [], ◌∷◌, Option, Some, None}
use Rattle.fab_policy_base.specs.Callers.{is_same}
use Rattle.fab_policy_base.specs.Policies.{WindowRow}
use Rattle.fab_policy_base.specs.declared.policy.Freeze.{Freeze}
use Rattle.fab_policy_base.specs.declared.policy.WeekSpan.{WeekSpan}
use Rattle.fab_policy.specs.Windows.{is_open}

-- the moment that is so many seconds later, if it has 64 bits
abbrev pub later : ℕ → ℕ → Option ℕ
later moment seconds = if nat_lt (moment + seconds) (2 ^ 64) then Some (moment + seconds) else None

-- how many seconds after the moment the minute of the week begins; the first Unix second was in minute 4320
abbrev pub seconds_to : ℕ → ℕ → ℕ
seconds_to moment minute = (((minute % 10080 + 5760) % 10080) * 60 + 604800 - moment % 604800) % 604800

-- the first moment from one on at which the minute of the week begins
abbrev pub next_start : ℕ → ℕ → Option ℕ
next_start moment minute = later moment (seconds_to moment minute)

-- the earlier of what was found so far and a moment, if the window is open then
abbrev pub better_than : WindowRow → Option ℕ → ℕ → Option ℕ
better_than w None c = if is_open w c then Some c else None
better_than w (Some b) c = if nat_lt c b && is_open w c then Some c else Some b

abbrev pub better : WindowRow → Option ℕ → Option ℕ → Option ℕ
better w best None = best
better w best (Some c) = better_than w best c

-- where parts of the week begin after a moment
abbrev pub with_starts : WindowRow → ℕ → Option ℕ → List WeekSpan → Option ℕ
with_starts w base best [] = best
with_starts w base best (s ∷ ss) = with_starts w base (better w best (next_start base s.from)) ss

-- a moment itself, and where parts of the week begin after it
abbrev pub with_base : WindowRow → Option ℕ → ℕ → Option ℕ
with_base w best base = with_starts w base (better_than w best base) w.weekly

abbrev pub with_end : WindowRow → ℕ → Option ℕ → ℕ → Option ℕ
with_end w from best end = if nat_le from end then with_base w best end else best

-- the ends of freezes that are not before a moment
abbrev pub with_ends : WindowRow → ℕ → Option ℕ → List Freeze → Option ℕ
with_ends w from best [] = best
with_ends w from best (f ∷ fs) = with_ends w from (with_end w from best f.until) fs

-- the first of these moments at which the window is open
abbrev pub opening_of : WindowRow → ℕ → Option ℕ
opening_of w from = with_ends w from (with_base w None from) w.freeze

-- the earlier of two moments that may be there
abbrev pub earlier_of : ℕ → Option ℕ → Option ℕ
earlier_of a None = Some a
earlier_of a (Some b) = if nat_lt b a then Some b else Some a

abbrev pub earlier : Option ℕ → Option ℕ → Option ℕ
earlier None b = b
earlier (Some a) b = earlier_of a b

-- the first of all windows of a name
abbrev pub with_window : List ℕ → ℕ → Option ℕ → WindowRow → Option ℕ
with_window name from best w = if is_same w.name name then earlier best (opening_of w from) else best

abbrev pub with_windows : List ℕ → ℕ → Option ℕ → List WindowRow → Option ℕ
with_windows name from best [] = best
with_windows name from best (w ∷ ws) = with_windows name from (with_window name from best w) ws
