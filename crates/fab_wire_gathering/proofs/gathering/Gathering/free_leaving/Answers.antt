use Rattle.std.proofs.Common.{inr, subst}
use Rattle.fab_wire_gathering.specs.Seats.{IsFirstSeat, leaves_at}
use Rattle.fab_wire_gathering.proofs.gathering.Gathering.free_leaving.Goals as goal

pub returns-in-Some-clause-free : goal.returns-in-Some-clause-free
returns-in-Some-clause-free c =
    let first = subst (IsFirstSeat _ leaves_at c.args.self.now.seats.items) c.in-Some.is c.leaving.ensures in
    let leaves = c.free_quiet.ensures.free first.guest first.seated in
    inr (c.in-Some.place, first, (first.guest, first.seated, leaves.0, leaves.1, leaves.2))
