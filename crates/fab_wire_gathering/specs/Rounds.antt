-- What a round makes of each who is there.
use Rattle.std.specs.Prelude.{ℕ, ◌≡◌, ◌<◌, ⊤, Bool, true, false, Option, Some, None, length, map, max, nat_le, slice_get}
use Rattle.fab_wire_deadlines.specs.Deadlines.{end_after, end_of, seen_by}
use Rattle.fab_wire_deadlines.specs.declared.deadline.Deadline.{Deadline}
use Rattle.fab_wire_gathering.specs.Guests.{ComesTo, LeavesWithin, goes_on, most_lingering, most_takings}
use Rattle.fab_wire_gathering.specs.Seats.{Seats, HasSeat, SameSeats, given_up_at, without_gone}
use Rattle.fab_wire_gathering.specs.declared.guest.Guest.{Guest}
use Rattle.fab_wire_gathering.specs.declared.guest.Stage.{Stage}
use Rattle.fab_wire_gathering.specs.declared.guest.Stage.TheVariants.{Waits, Taken, Unsent, Told}

-- a free seat stays free
abbrev pub GoesOnSo : (Guest → Guest → Type 0) → Option Guest → Option Guest → Type 0
GoesOnSo so None after = after ≡ None
GoesOnSo so (Some guest) after = (new : Guest) × (after ≡ Some new) × so guest new

-- everybody goes on so, and no seat comes or goes
pub record EachGoesOn (so : Guest → Guest → Type 0) (old new : Seats) : Type 0 where
  pub seats : length new ≡ length old
  pub each : (place : ℕ) (seat : Option Guest) → slice_get old place ≡ Some seat → (after : Option Guest) × (slice_get new place ≡ Some after) × GoesOnSo so seat after

-- its socket is the same, and what it has come to goes by its stage
abbrev pub HasGoneOn : Guest → Guest → Type 0
HasGoneOn guest after = (after.stream ≡ guest.stream) × ComesTo guest.stage guest after

-- there is so much more time
abbrev pub IsPutOff : ℕ → Guest → Guest → Type 0
IsPutOff by guest after = (deadline : Deadline) × (end_of deadline ≡ end_after (end_of guest.deadline) by) × (after ≡ record guest { deadline = deadline })

-- one of which was told that it has its answer is seen off: what is still sent is taken from now on, for a second and so many
-- pieces at most; or it is gone
abbrev pub IsSeenOffIn : Stage → ℕ → Guest → Guest → Type 0
IsSeenOffIn Told now guest after =
    (deadline : Deadline) × (is : Stage) × LeavesWithin most_takings is × (end_of deadline ≡ end_after now most_lingering) × (after ≡ record guest { deadline = deadline; stage = is })
IsSeenOffIn other now guest after = after ≡ guest

abbrev pub IsSeenOff : ℕ → Guest → Guest → Type 0
IsSeenOff now guest after = IsSeenOffIn guest.stage now guest after

-- one whose time is up, by the latest reading of the clock, is given up
abbrev pub given_up_if : Bool → ℕ → Guest → Guest
given_up_if true waited guest = given_up_at waited guest
given_up_if false waited guest = guest

abbrev pub given_up_late : ℕ → Guest → Guest
given_up_late waited guest = given_up_if (nat_le (end_of guest.deadline) (seen_by guest.deadline)) waited guest

abbrev pub IsTimed : ℕ → Guest → Guest → Type 0
IsTimed now guest after =
    (deadline : Deadline) × (waited : ℕ) × (end_of deadline ≡ end_of guest.deadline) × (seen_by deadline ≡ max (seen_by guest.deadline) now)
    × (after ≡ given_up_late waited (record guest { deadline = deadline }))

-- a round: everybody goes on, whoever is late then is given up, and whoever is gone goes
abbrev pub IsRound : ℕ → Seats → Seats → Type 0
IsRound now old new = (on : Seats) × (timed : Seats) × EachGoesOn HasGoneOn old on × EachGoesOn (IsTimed now) on timed × SameSeats (map without_gone timed) new

-- everybody of whom nothing is to come, and to whom nothing is to be sent, has the seat still, but who is gone: whose turn is to
-- come keeps the request and its number, whose turn has ended what was sent
abbrev pub RestsIn : Stage → Type 0
RestsIn Waits = ⊤
RestsIn Taken = ⊤
RestsIn Unsent = ⊤
RestsIn Told = ⊤
RestsIn other = ⊥

abbrev pub KeepResting : Seats → Seats → Type 0
KeepResting old new = (place : ℕ) (guest : Guest) → HasSeat old place guest → RestsIn guest.stage → (deadline : Deadline) × (end_of deadline ≡ end_of guest.deadline) × HasSeat new place (record guest { deadline = deadline })

-- nobody is there whose time is up
abbrev pub NobodyIsLate : ℕ → Seats → Type 0
NobodyIsLate now seats = (place : ℕ) (guest : Guest) → HasSeat seats place guest → goes_on guest.stage ≡ true → now < end_of guest.deadline
