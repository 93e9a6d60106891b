-- Who is seated, how long is waited, which turns have ended, who makes way for another, and who is handed an answer.
use Rattle.std.specs.Prelude.{ℕ, zero, suc, ◌≡◌, ◌≢◌, ◌≤◌, ◌<◌, ◌⊎◌, ◌↔◌, Bool, true, false, length, Option, Some, None, Vec, vec_capacity, slice_get, slice_set}
use Rattle.std.specs.Ordering.{nat_cmp}
use Rattle.std.specs.declared.alloc.Global.{Global}
use Rattle.std.specs.declared.cmp.Ordering.{Ordering}
use Rattle.std.specs.declared.net.tcp.TcpStream.{TcpStream}
use Rattle.std.specs.declared.time.Instant.{Instant}
use Rattle.std.specs.Time.{instant_nanos}
use Rattle.fab_wire_deadlines.specs.Deadlines.{end_after, end_of}
use Rattle.fab_wire_gathering.specs.Guests.{TakesRest, given_up}
use Rattle.fab_wire_gathering.specs.Seats.{Seats, HasSeat, SameSeats, IsFirstSeat, ended_of, ends_at, given_up_at, has_taken, kept_in, leaves_at, most_guests, most_kept, most_waiting, silent_since, takes_until, told}
use Rattle.fab_wire_gathering.specs.declared.gathering.Ended.{Ended}
use Rattle.fab_wire_gathering.specs.declared.gathering.Gathering.{Gathering}
use Rattle.fab_wire_gathering.specs.declared.gathering.Seating.{Seating}
use Rattle.fab_wire_gathering.specs.declared.gathering.Seating.TheVariants.{At, Full, Refused}
use Rattle.fab_wire_gathering.specs.declared.guest.Guest.{Guest}
use Rattle.fab_wire_gathering.specs.declared.guest.Stage.{Stage}
use Rattle.fab_wire_gathering.specs.declared.guest.Stage.TheVariants.{Taken}

-- the seats of those who are there
abbrev pub seats_of : Gathering → Seats
seats_of gathering = gathering.seats.items

-- when all were tried, the last time
abbrev pub tried_at : Gathering → ℕ
tried_at gathering = instant_nanos gathering.tried

-- no seat is free, and there is no place for one more: there are as many as there may be, or memory for no more
pub record HasNoPlace (seats : Vec (Option Guest) Global) : Type 0 where
  pub taken : (place : ℕ) → slice_get seats.items place ≡ Some None → ⊥
  pub most : (most_guests ≤ length seats.items) ⊎ (vec_capacity seats ≤ length seats.items)

-- the connection has the seat that was given, which nobody had, until this end; the others are there as they were
pub record HasComeTo (old new : Seats) (stream : TcpStream) (end place : ℕ) : Type 0 where
  pub guest : Guest
  pub seated : HasSeat new place guest
  pub is : guest.stream ≡ stream
  pub end_is : end_of guest.deadline ≡ end
  pub free : (other : Guest) → HasSeat old place other → ⊥
  pub others : (q : ℕ) (other : Guest) → q ≢ place → HasSeat old q other ↔ HasSeat new q other

-- what came of seating a connection: one without a seat comes back, and everybody is there as before
abbrev pub IsSeated : Vec (Option Guest) Global → Seats → TcpStream → ℕ → Seating → Type 0
IsSeated old new stream end (At place) = HasComeTo old.items new stream end place
IsSeated old new stream end (Full back) = (back ≡ stream) × HasNoPlace old × (new ≡ old.items)
IsSeated old new stream end (Refused back) = (back ≡ stream) × SameSeats old.items new

-- ---- how long may be waited

-- the first of all ends: that of the time after which all are tried, or of somebody's
pub record IsFirstEnd (crowded : Bool) (tried : ℕ) (seats : Seats) (end : ℕ) : Type 0 where
  pub upto_tried : end ≤ end_after tried most_waiting
  pub upto_each : (place : ℕ) (guest : Guest) → HasSeat seats place guest → end ≤ ends_at crowded guest
  pub is : (end ≡ end_after tried most_waiting) ⊎ ((place : ℕ) × (guest : Guest) × HasSeat seats place guest × (end ≡ ends_at crowded guest))

-- ---- turns that have ended

-- it is told of the ended turn with the least number, whether its answer was taken whole, and that is done with
pub record IsNextEnded (old new : Seats) (ended : Ended) : Type 0 where
  pub place : ℕ
  pub first : IsFirstSeat nat_cmp ended_of old (Some place)
  pub guest : Guest
  pub seated : HasSeat old place guest
  pub number : ended.number ≡ guest.number
  pub is_taken : ended.is_taken ≡ has_taken guest.stage
  pub rest : new ≡ slice_set old place (Some (told guest))

-- ---- who makes way

-- nobody has been silent for too long, and everybody stays; or the one who has been for the longest is given up, and the others stay
abbrev pub GivesUpSilent : (Instant → Instant → Ordering) → ℕ → ℕ → Seats → Seats → Type 0
GivesUpSilent R now waited old new =
    (IsFirstSeat R (silent_since now) old None × (new ≡ old))
    ⊎ ((place : ℕ) × (guest : Guest) × IsFirstSeat R (silent_since now) old (Some place) × HasSeat old place guest × (new ≡ slice_set old place (Some (given_up_at waited guest))))

-- of one that is seen off nothing more came, and its seat is free then; or something did, and it stays, or is gone
abbrev pub LeavesIf : Bool → Guest → Option Guest → Type 0
LeavesIf true guest after = after ≡ None
LeavesIf false guest after = (is : Stage) × TakesRest guest.stage is × (after ≡ Some (record guest { stage = is }))

-- it is looked at the one in this seat whether it leaves
abbrev pub LeavesFrom : ℕ → Seats → Seats → Bool → Type 0
LeavesFrom place old new leaves = (guest : Guest) × HasSeat old place guest × (after : Option Guest) × LeavesIf leaves guest after × (new ≡ slice_set old place after)

-- nobody is seen off; or it is looked at the first to be given up of these
abbrev pub FreesLeaver : (Instant → Instant → Ordering) → Seats → Seats → Bool → Type 0
FreesLeaver R old new frees =
    (IsFirstSeat R leaves_at old None × (frees ≡ false) × (new ≡ old))
    ⊎ ((place : ℕ) × IsFirstSeat R leaves_at old (Some place) × LeavesFrom place old new frees)

-- one that is seen off leaves; or, where none does, one that was silent for too long is given up
abbrev pub MakesWay : (Instant → Instant → Ordering) → ℕ → ℕ → Seats → Seats → Type 0
MakesWay R now waited old new = FreesLeaver R old new true ⊎ ((mid : Seats) × FreesLeaver R old mid false × GivesUpSilent R now waited mid new)

-- ---- answers that are handed

-- so many that take their answers are given up, one after the other: the first to be given up, since too many bytes are kept
abbrev pub AreGivenUp : (Instant → Instant → Ordering) → ℕ → Seats → Seats → Type 0
AreGivenUp R zero old new = new ≡ old
AreGivenUp R (suc n) old new =
    (mid : Seats) × AreGivenUp R n old mid × (most_kept < kept_in mid)
    × (place : ℕ) × (guest : Guest) × IsFirstSeat R takes_until mid (Some place) × HasSeat mid place guest × (new ≡ slice_set mid place (Some (given_up guest)))

-- as many are given up as it takes until few bytes of answers are kept
pub record MakesRoom (R : Instant → Instant → Ordering) (old new : Seats) : Type 0 where
  pub count : ℕ
  pub given_up : AreGivenUp R count old new
  pub few : kept_in new ≤ most_kept

-- one has the answer in its seat, of which the first bytes are sent, all of them where it is told so; and room is made
pub record IsHanded (R : Instant → Instant → Ordering) (old new : Seats) (place : ℕ) (guest : Guest) : Type 0 where
  pub is : Stage
  pub sent : ℕ
  pub whole : is ≡ Taken → length guest.bytes.items ≤ sent
  pub room : MakesRoom R (slice_set old place (Some (record guest { stage = is; sent = sent }))) new
