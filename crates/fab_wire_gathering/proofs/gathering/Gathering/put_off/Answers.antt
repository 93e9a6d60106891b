use Rattle.std.proofs.Common.{◌<◌, ◌≤◌, List, length, sym, subst}
use Rattle.std.specs.Duration.{as_nanos}
use Rattle.fab_wire_gathering.specs.Rounds.{IsPutOff}
use Rattle.fab_wire_gathering.proofs.Each.{HaveGoneOn, all_written, next_one, none_yet}
use Rattle.fab_wire_gathering.proofs.gathering.Gathering.put_off.Goals as goal

pub loop-seat-init : goal.loop-seat-init
loop-seat-init c = subst (HaveGoneOn (IsPutOff (as_nanos c.args.by)) c.args.self.now.seats.items 0) (sym c.deref_mut-seat-items.ensures.value) (none_yet (IsPutOff (as_nanos c.args.by)) c.args.self.now.seats.items)

pub loop-seat-preserved : goal.loop-seat-preserved
loop-seat-preserved c =
    let now = c.loop-seat.seat-items in
    let i = c.loop-seat.seat-index in
    let within = subst (λ n. i < n) (sym c.loop-seat.auto.seat-items) c.loop-seat-test.true in
    next_one (IsPutOff (as_nanos c.args.by)) c.args.self.now.seats.items i now c.seat-item.result c.put_off_in.new.seat within c.loop-seat.invariant c.put_off_in.ensures

pub returns : goal.returns
returns c =
    let seats = c.args.self.now.seats in
    let all = subst (λ (xs : List _). length xs ≤ c.loop-seat.seat-index) c.deref_mut-seat-items.ensures.value c.loop-seat-test.false in
    all_written (IsPutOff (as_nanos c.args.by)) seats.items c.loop-seat.seat-index seats.len c.loop-seat.seat-items seats.ok.0 all c.loop-seat.invariant
