-- The seats of those who are there, and which of them comes first.
use Rattle.std.specs.Prelude.{ℕ, ◌≡◌, List, Option, Some, None, Bool, true, false, nat_le, min, ◌+◌, ◌-◌, ◌^◌, ◌↔◌, length, [], ◌∷◌, slice_get, if◌then◌else◌}
use Rattle.std.specs.declared.cmp.Ordering.{Ordering}
use Rattle.std.specs.declared.time.Instant.{Instant}
use Rattle.std.specs.Ordering.{is_gt}
use Rattle.std.specs.Time.{instant_nanos}
use Rattle.fab_wire_deadlines.specs.Deadlines.{end_after, end_of, end_time}
use Rattle.fab_wire_gathering.specs.Guests.{given_up, given_up_stage}
use Rattle.fab_wire_gathering.specs.declared.guest.Ending.{Ending}
use Rattle.fab_wire_gathering.specs.declared.guest.Ending.TheVariants.{Failed}
use Rattle.fab_wire_gathering.specs.declared.guest.Guest.{Guest}
use Rattle.fab_wire_gathering.specs.declared.guest.Stage.{Stage}
use Rattle.fab_wire_gathering.specs.declared.guest.Stage.TheVariants.{Sends, Waits, Takes, Taken, Unsent, Told, Leaves, Gone}

-- the seats by their places; a free one has nobody
abbrev pub Seats : Type 0
Seats = List (Option Guest)

-- this one has the seat of this place
abbrev pub HasSeat : Seats → ℕ → Guest → Type 0
HasSeat seats place guest = slice_get seats place ≡ Some (Some guest)

-- how many connections are there at most
abbrev pub most_guests : ℕ
most_guests = 256

-- ---- who comes first by what some of them have

-- the one in this seat has the least of it, by the order
pub record ComesFirst {K : Type 0} (R : K → K → Ordering) (of : Guest → Option K) (seats : Seats) (place : ℕ) : Type 0 where
  pub guest : Guest
  pub seated : HasSeat seats place guest
  pub has : K
  pub is : of guest ≡ Some has
  pub least : (q : ℕ) (other : Guest) (y : K) → HasSeat seats q other → of other ≡ Some y → is_gt (R has y) ≡ false

-- the seat of the one who comes first, or nobody has something of it
abbrev pub IsFirstSeat : {K : Type 0} → (K → K → Ordering) → (Guest → Option K) → Seats → Option ℕ → Type 0
IsFirstSeat {K} R of seats None = (q : ℕ) (guest : Guest) → HasSeat seats q guest → of guest ≡ None
IsFirstSeat R of seats (Some place) = ComesFirst R of seats place

-- the number of one whose turn is to come
abbrev pub turn_in : Stage → ℕ → Option ℕ
turn_in Waits number = Some number
turn_in other number = None

abbrev pub turn_of : Guest → Option ℕ
turn_of guest = turn_in guest.stage guest.number

-- the number of one whose turn has ended, of which was not told
abbrev pub ended_in : Stage → ℕ → Option ℕ
ended_in Taken number = Some number
ended_in Unsent number = Some number
ended_in other number = None

abbrev pub ended_of : Guest → Option ℕ
ended_of guest = ended_in guest.stage guest.number

-- when one is let go that has its answer
abbrev pub leaves_in : Stage → Instant → Option Instant
leaves_in (Leaves left) end = Some end
leaves_in other end = None

abbrev pub leaves_at : Guest → Option Instant
leaves_at guest = leaves_in guest.stage (end_time guest.deadline)

-- when one is given up that takes its answer
abbrev pub takes_in : Stage → Instant → Option Instant
takes_in Takes end = Some end
takes_in other end = None

abbrev pub takes_until : Guest → Option Instant
takes_until guest = takes_in guest.stage (end_time guest.deadline)

-- ---- times

-- how long the system is waited for at most, and how often all are tried, in nanoseconds: a second
abbrev pub most_waiting : ℕ
most_waiting = 1_000_000_000

-- how long a connection has to have sent nothing before it is given up for another, in nanoseconds: two seconds
abbrev pub most_silence : ℕ
most_silence = 2_000_000_000

-- when one was heard that sends its request and has sent nothing for too long
abbrev pub silent_in : ℕ → Stage → Instant → Option Instant
silent_in now Sends heard = if nat_le (end_after (instant_nanos heard) most_silence) now then Some heard else None
silent_in now other heard = None

abbrev pub silent_since : ℕ → Guest → Option Instant
silent_since now guest = silent_in now guest.stage guest.heard

-- when something is to be done with one: its time is up; or, where another one waits for a seat, it has sent nothing for too long
abbrev pub ends_in : Bool → Stage → ℕ → ℕ → ℕ
ends_in true Sends end heard = min end (end_after heard most_silence)
ends_in crowded other end heard = end

abbrev pub ends_at : Bool → Guest → ℕ
ends_at crowded guest = ends_in crowded guest.stage (end_of guest.deadline) (instant_nanos guest.heard)

-- ---- what was told

-- whether one has taken its answer whole
abbrev pub has_taken : Stage → Bool
has_taken Taken = true
has_taken other = false

-- what is left to do with one whose end was told: one that has taken its answer is seen off, unless its request failed to come
abbrev pub told_in : Stage → Ending → Stage
told_in Taken Failed = Gone
told_in Taken ending = Told
told_in other ending = Gone

abbrev pub told : Guest → Guest
told guest = record guest { stage = told_in guest.stage guest.ending }

-- ---- who goes

-- one that takes its answer is given up
abbrev pub taker_given_up : Stage → Guest → Guest
taker_given_up Takes guest = given_up guest
taker_given_up other guest = guest

abbrev pub takers_given_up : Option Guest → Option Guest
takers_given_up None = None
takers_given_up (Some guest) = Some (taker_given_up guest.stage guest)

-- the seat of one whose request has had no turn is free
abbrev pub dismissed_in : Stage → Guest → Option Guest
dismissed_in Sends guest = None
dismissed_in Waits guest = None
dismissed_in other guest = Some guest

abbrev pub dismissed : Option Guest → Option Guest
dismissed None = None
dismissed (Some guest) = dismissed_in guest.stage guest

-- the seat of one who is gone is free
abbrev pub without_gone_in : Stage → Guest → Option Guest
without_gone_in Gone guest = None
without_gone_in other guest = Some guest

abbrev pub without_gone : Option Guest → Option Guest
without_gone None = None
without_gone (Some guest) = without_gone_in guest.stage guest

-- everybody has the seat still, and nobody else has one
abbrev pub SameSeats : Seats → Seats → Type 0
SameSeats old new = (place : ℕ) (guest : Guest) → HasSeat old place guest ↔ HasSeat new place guest

-- ---- numbers of those who wait

-- one whose request has come, or has failed to come, has the next number
abbrev pub numbered_in : Stage → Stage → ℕ → Guest → Guest
numbered_in Sends Waits number guest = record guest { number = number }
numbered_in was is number guest = guest

-- how many have begun to wait then
abbrev pub waited_in : Stage → Stage → ℕ → ℕ
waited_in Sends Waits waited = min (waited + 1) (2 ^ 64 - 1)
waited_in was is waited = waited

-- one that is given up, where so many have begun to wait
abbrev pub given_up_at : ℕ → Guest → Guest
given_up_at waited guest = numbered_in guest.stage (given_up_stage guest.stage) waited (given_up guest)

-- ---- bytes of answers that are kept

-- those of an answer that one has not taken whole
abbrev pub kept_at : Stage → ℕ → ℕ
kept_at Takes size = size
kept_at other size = 0

abbrev pub kept_by : Option Guest → ℕ
kept_by None = 0
kept_by (Some guest) = kept_at guest.stage (length guest.bytes.items)

-- those of all
abbrev pub kept_in : Seats → ℕ
kept_in [] = 0
kept_in (seat ∷ seats) = kept_by seat + kept_in seats

-- how many bytes are kept at most, between two turns: 64 MiB
abbrev pub most_kept : ℕ
most_kept = 67108864
