-- What clauses see of a stream with a deadline. Times are nanoseconds on the monotonic clock.
use Rattle.std.specs.Prelude.{ℕ, ◌≡◌, ◌+◌, ◌-◌, ◌*◌, ◌^◌, ◌⊎◌, nat_lt, max, min, if◌then◌else◌, Result, Ok, Err}
use Rattle.std.specs.Time.{instant_nanos}
use Rattle.std.specs.declared.time.Instant.{Instant}
use Rattle.fab_wire_deadlines.specs.declared.deadline.Deadline.{Deadline}
use Rattle.fab_wire_deadlines.specs.declared.deadline.Timed.{Timed}

-- so long after a time; past the end of the clock, which has 2^63 seconds, the time itself
abbrev pub end_after : ℕ → ℕ → ℕ
end_after start most = if nat_lt (start + most) (2 ^ 63 * 1_000_000_000) then start + most else start

-- the time at which the connection ends at the latest
abbrev pub end_time : Deadline → Instant
end_time d = d.end

-- when the connection ends at the latest
abbrev pub end_of : Deadline → ℕ
end_of d = instant_nanos d.end

-- the latest reading of the clock
abbrev pub seen_by : Deadline → ℕ
seen_by d = instant_nanos d.seen

-- the clock
abbrev pub clock_of : {C S : Type 0} → Timed C S → C
clock_of t = t.clock.now

-- the stream itself
abbrev pub stream_of : {C S : Type 0} → Timed C S → S
stream_of t = t.stream

abbrev pub end_at : {C S : Type 0} → Timed C S → ℕ
end_at t = end_of t.deadline

abbrev pub seen_at : {C S : Type 0} → Timed C S → ℕ
seen_at t = seen_by t.deadline

-- the clock was read
abbrev pub HasSeen : {C S : Type 0} → (C → ℕ → Type 0) → Timed C S → Timed C S → Type 0
HasSeen tells old new = (reading : ℕ) × tells (clock_of old) reading × (seen_at new ≡ max (seen_at old) reading)

-- from a reading of the clock on there is as much time as was left, and no more than so much
abbrev pub IsHastened : {C S : Type 0} → ℕ → ℕ → Timed C S → Timed C S → Type 0
IsHastened reading most old new = end_at new ≡ end_after reading (min (end_at old - max (seen_at old) reading) most)

-- there was no time left: the call failed, and the stream was not asked
abbrev pub IsOver : {C S A E : Type 0} → Timed C S → Timed C S → Result A E → Type 0
IsOver old new (Ok x) = ⊥
IsOver old new (Err e) = stream_of new ≡ stream_of old

module _ {C S : Type 0} (tells : C → ℕ → Type 0) (waits : S → ℕ → S → Type 0) where
  -- the clock was read, and the stream was asked to wait for what was left of the time
  abbrev pub HasAsked : Timed C S → Timed C S → Type 0
  HasAsked old new = HasSeen tells old new × ((most : ℕ) × (most + seen_at new ≡ end_at new) × waits (stream_of old) most (stream_of new))

  -- a call that succeeds has asked the stream so; one that fails has, or has left the stream as it was
  abbrev pub IsAsked : {A E : Type 0} → Timed C S → Timed C S → Result A E → Type 0
  IsAsked old new (Ok x) = HasAsked old new
  IsAsked old new (Err e) = HasAsked old new ⊎ (stream_of new ≡ stream_of old)
