use Rattle.std.proofs.Common.{◌≡◌, ◌≤◌, List, length, Some, slice_get, refl, subst}
use Rattle.std.proofs.lemmas.Option.{slice_get_read}
use Rattle.std.specs.Time.{instant_nanos}
use Rattle.fab_wire_gathering.proofs.Ends.{all_ends, none_yet, seat_more}
use Rattle.fab_wire_gathering.proofs.gathering.Gathering.next_end.Goals as goal

pub loop-seat-init : goal.loop-seat-init
loop-seat-init c = (c.deref-seat-items.ensures.value, none_yet c.args.is_crowded (instant_nanos c.args.self.now.tried) c.args.self.now.seats.items (instant_nanos c.later-first.result) c.later-first.ensures)

pub loop-seat-preserved : goal.loop-seat-preserved
loop-seat-preserved c =
    let seats = c.args.self.now.seats.items in
    let i = c.loop-seat.seat-index in
    let at = slice_get_read c.deref-seat-items.result.now _ i c.seat-item.result refl c.loop-seat-test.true c.seat-item.is in (
      c.deref-seat-items.ensures.value,
      seat_more c.args.is_crowded (instant_nanos c.args.self.now.tried) seats i (instant_nanos c.loop-seat.first) (instant_nanos c.sooner_in-first.result) c.seat-item.result (subst (λ xs. slice_get xs i ≡ Some c.seat-item.result) c.deref-seat-items.ensures.value at) c.loop-seat.invariant.1 c.sooner_in-first.ensures,
    )

pub returns : goal.returns
returns c = all_ends c.args.is_crowded (instant_nanos c.args.self.now.tried) c.args.self.now.seats.items c.loop-seat.seat-index (instant_nanos c.loop-seat.first) (subst (λ (xs : List _). length xs ≤ c.loop-seat.seat-index) c.deref-seat-items.ensures.value c.loop-seat-test.false) c.loop-seat.invariant.1
