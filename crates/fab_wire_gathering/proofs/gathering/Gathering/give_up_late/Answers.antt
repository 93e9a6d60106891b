use Rattle.std.proofs.Common.{◌<◌, ◌≤◌, List, length, sym, subst}
use Rattle.std.specs.Time.{instant_nanos}
use Rattle.fab_wire_gathering.specs.Rounds.{IsTimed}
use Rattle.fab_wire_gathering.proofs.Each.{HaveGoneOn, all_written, next_one, none_yet}
use Rattle.fab_wire_gathering.proofs.gathering.Gathering.give_up_late.Goals as goal

pub loop-seat-init : goal.loop-seat-init
loop-seat-init c = subst (HaveGoneOn (IsTimed (instant_nanos c.args.now)) c.args.self.now.seats.items 0) (sym c.deref_mut-seat-items.ensures.value) (none_yet (IsTimed (instant_nanos c.args.now)) c.args.self.now.seats.items)

pub loop-seat-preserved : goal.loop-seat-preserved
loop-seat-preserved c =
    let now = c.loop-seat.seat-items in
    let i = c.loop-seat.seat-index in
    let within = subst (λ n. i < n) (sym c.loop-seat.auto.seat-items) c.loop-seat-test.true in
    next_one (IsTimed (instant_nanos c.args.now)) c.args.self.now.seats.items i now c.seat-item.result c.give_up_late_in.new.seat within c.loop-seat.invariant c.give_up_late_in.ensures

pub returns : goal.returns
returns c =
    let seats = c.args.self.now.seats in
    let all = subst (λ (xs : List _). length xs ≤ c.loop-seat.seat-index) c.deref_mut-seat-items.ensures.value c.loop-seat-test.false in
    all_written (IsTimed (instant_nanos c.args.now)) seats.items c.loop-seat.seat-index seats.len c.loop-seat.seat-items seats.ok.0 all c.loop-seat.invariant
