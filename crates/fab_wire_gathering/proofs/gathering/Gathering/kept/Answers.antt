use Rattle.std.proofs.Common.{length, ap, arith}
use Rattle.fab_wire_gathering.proofs.Takers.{all_kept}
use Rattle.fab_wire_gathering.proofs.gathering.Gathering.kept.Goals as goal

pub returns : goal.returns
returns c =
    let same = ap length c.deref-seat-items.ensures.value in
    let past = c.loop-seat-test.false in
    let within = c.loop-seat.auto.seat-index-end in
    all_kept c.args.self.now.seats.items c.loop-seat.seat-index c.loop-seat.all _ (omega (arith, same, past, within)) c.loop-seat.invariant.2 c.loop-seat.invariant.1
