-- The connections of a room: how long is waited for them, and who has a turn.
use Rattle.std.specs.Prelude.{ℕ, ◌≡◌, ◌<◌, ◌-◌, ◌⊎◌, Bool, true, false, Option, Some, None, IsSome, slice_set}
use Rattle.std.specs.Ordering.{nat_cmp}
use Rattle.std.specs.declared.net.tcp.TcpStream.{TcpStream}
use Rattle.fab_wire_gathering.specs.Ends.{IsFirstEnd}
use Rattle.fab_wire_gathering.specs.Guests.{WaitsSo}
use Rattle.fab_wire_gathering.specs.Seats.{Seats, HasSeat, IsFirstSeat, turn_of}
use Rattle.fab_wire_gathering.specs.declared.guest.Ending.TheVariants as ending
use Rattle.fab_wire_gathering.specs.declared.guest.Guest.{Guest}

-- a connection may be there that is taken up: one knocks, some are left to be taken up, and no comer waits for a seat
abbrev pub TakesUp : Bool → ℕ → Option TcpStream → Type 0
TakesUp knocks left comer = (knocks ≡ true) × (0 < left) × (comer ≡ None)

-- none is taken up
abbrev pub TakesNoneUp : Bool → ℕ → Option TcpStream → Type 0
TakesNoneUp knocks left comer = (knocks ≡ false) ⊎ ((left ≡ 0) ⊎ IsSome comer)

-- so long may be waited for those who are there: not at all where the turn of somebody has come, else until the first of all ends
abbrev pub MayWait : Bool → ℕ → ℕ → Seats → ℕ → Type 0
MayWait crowded tried now seats time =
    ((place : ℕ) (guest : Guest) (number : ℕ) → HasSeat seats place guest → turn_of guest ≡ Some number → time ≡ 0)
    × (IsFirstSeat nat_cmp turn_of seats None → (end : ℕ) × IsFirstEnd crowded tried seats end × (time ≡ end - now))

-- one without a seat has its turn at once, and all of it is still to be read; one with a seat was the first of those who waited, and
-- leaves it
abbrev pub HasTurn : Option ℕ → Guest → Seats → Type 0
HasTurn None guest seats = WaitsSo ending.Starved guest
HasTurn (Some place) guest seats = (old : Seats) × IsFirstSeat nat_cmp turn_of old (Some place) × HasSeat old place guest × (seats ≡ slice_set old place None)
