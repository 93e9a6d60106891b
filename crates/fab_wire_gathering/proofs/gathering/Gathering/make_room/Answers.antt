use Rattle.std.proofs.Common.{◌<◌, Some, refl, suc, set, sym, ap, ◌∙◌, subst, arith}
use Rattle.fab_wire_deadlines.specs.Deadlines.{end_time}
use Rattle.fab_wire_gathering.specs.Seats.{Seats, IsFirstSeat, kept_in, most_kept, takes_until}
use Rattle.fab_wire_gathering.specs.Inner.Takers.{takers_in}
use Rattle.fab_wire_gathering.specs.declared.guest.Guest.{Guest}
use Rattle.fab_wire_gathering.proofs.Taken.{given_up_unnumbered}
use Rattle.fab_wire_gathering.proofs.Takers.{fewer_take, none_kept, takes}
use Rattle.fab_wire_gathering.proofs.gathering.Gathering.make_room.Goals as goal

pub loop-self-smaller : goal.loop-self-smaller
loop-self-smaller c =
    let seats = c.loop-self.self.seats.items in
    let first = subst (IsFirstSeat _ takes_until seats) c.in-Some.is c.taking.ensures in
    subst (λ (s : Seats). takers_in s < takers_in seats) (sym (c.give_up_seat.ensures first.guest first.seated))
    (fewer_take seats c.in-Some.place c.loop-self.self.waited first.guest first.seated (takes first.guest.stage (end_time first.guest.deadline) first.has first.is))

pub loop-self-init : goal.loop-self-init
loop-self-init c = (0, refl)

pub loop-self-preserved : goal.loop-self-preserved
loop-self-preserved c =
    let seats = c.loop-self.self.seats.items in
    let place = c.in-Some.place in
    let first = subst (IsFirstSeat _ takes_until seats) c.in-Some.is c.taking.ensures in
    let takes_answer = takes first.guest.stage (end_time first.guest.deadline) first.has first.is in
    let kept = c.kept.ensures in
    let past = c.loop-self-test.true in
    let many : most_kept < kept_in seats = omega (arith, kept, past) in
    let given_up = c.give_up_seat.ensures first.guest first.seated ∙ ap (λ (g : Guest). set seats place (Some g)) (given_up_unnumbered c.loop-self.self.waited first.guest takes_answer) in
    (suc c.loop-self.invariant.0, (seats, c.loop-self.invariant.1, many, place, first.guest, first, first.seated, given_up))

pub returns-in-None : goal.returns-in-None
returns-in-None c =
    let seats = c.loop-self.self.seats.items in
    let none = none_kept seats (subst (IsFirstSeat _ takes_until seats) c.in-None.is c.taking.ensures) in
    record { count = c.loop-self.invariant.0; given_up = c.loop-self.invariant.1; few = omega (arith, none) }
