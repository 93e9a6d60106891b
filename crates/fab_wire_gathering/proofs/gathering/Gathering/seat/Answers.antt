use Rattle.std.proofs.Common.{◌≡◌, sym, ap, subst, ◌∙◌}
use Rattle.std.specs.Duration.{as_nanos}
use Rattle.std.specs.Time.{instant_nanos}
use Rattle.fab_wire_deadlines.specs.Deadlines.{end_after, end_of}
use Rattle.fab_wire_gathering.specs.Ends.{HasComeTo}
use Rattle.fab_wire_gathering.specs.Seats.{Seats}
use Rattle.fab_wire_gathering.proofs.Rounds.{keeps_deadline}
use Rattle.fab_wire_gathering.proofs.Taken.{comes_to_seat}
use Rattle.fab_wire_gathering.proofs.gathering.Gathering.seat.Goals as goal

pub returns : goal.returns
returns g c =
    let old = c.args.self.now.seats.items in
    let is = c.go_on.ensures.on.0 ∙ c.new-guest.ensures.stream in
    let end = end_after (instant_nanos c.args.now) (as_nanos c.args.most) in
    let end_is : end_of c.go_on.new.guest.deadline ≡ end = ap end_of (keeps_deadline c.new-guest.result c.go_on.new.guest c.go_on.ensures.on ∙ c.new-guest.ensures.deadline) ∙ c.after.ensures.end in
    subst (λ (seats : Seats). HasComeTo old seats c.args.stream end c.in-Some.place) (sym c.put.ensures)
    (comes_to_seat old c.free_place.new.self.seats.items c.in-Some.place c.go_on.new.guest c.args.stream end c.in-Some.ensures.same c.in-Some.ensures.free is end_is)
