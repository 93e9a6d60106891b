use Rattle.std.proofs.Common.{inr, subst}
use Rattle.std.specs.Time.{instant_nanos}
use Rattle.fab_wire_gathering.specs.Seats.{IsFirstSeat, silent_since}
use Rattle.fab_wire_gathering.proofs.gathering.Gathering.give_up_silent.Goals as goal

pub returns-in-Some : goal.returns-in-Some
returns-in-Some c =
    let first = subst (IsFirstSeat _ (silent_since (instant_nanos c.args.now)) c.args.self.now.seats.items) c.in-Some.is c.silent.ensures in
    inr (c.in-Some.place, first.guest, first, first.seated, c.give_up_seat.ensures first.guest first.seated)
