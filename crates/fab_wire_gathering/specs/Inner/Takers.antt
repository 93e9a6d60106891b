-- How many take their answers: the measure of a loop.
use Rattle.std.specs.Prelude.{ℕ, ◌+◌, [], ◌∷◌, Option, Some, None}
use Rattle.fab_wire_gathering.specs.Seats.{Seats}
use Rattle.fab_wire_gathering.specs.declared.guest.Guest.{Guest}
use Rattle.fab_wire_gathering.specs.declared.guest.Stage.{Stage}
use Rattle.fab_wire_gathering.specs.declared.guest.Stage.TheVariants.{Takes}

abbrev pub takes_at : Stage → ℕ
takes_at Takes = 1
takes_at other = 0

abbrev pub taker_in : Option Guest → ℕ
taker_in None = 0
taker_in (Some guest) = takes_at guest.stage

abbrev pub takers_in : Seats → ℕ
takers_in [] = 0
takers_in (seat ∷ seats) = taker_in seat + takers_in seats
