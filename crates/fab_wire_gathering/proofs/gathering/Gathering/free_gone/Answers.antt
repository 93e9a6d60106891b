use Rattle.std.proofs.Common.{◌<◌, ◌+◌, List, length, get_or, drop, set, take, refl, ap, subst, ◌∙◌, arith}
use Rattle.fab_wire_gathering.specs.Seats.{without_gone}
use Rattle.fab_wire_gathering.proofs.Mapped.{mapped_more, rest_less}
use Rattle.fab_wire_gathering.proofs.gathering.Gathering.free_gone.Goals as goal

pub loop-seat-preserved : goal.loop-seat-preserved
loop-seat-preserved c =
    let seats = c.args.self.now.seats.items in
    let now = c.loop-seat.seat-items in
    let i = c.loop-seat.seat-index in
    let within = subst (λ (xs : List _). i < length xs) c.deref_mut-seat-items.ensures.value c.loop-seat-test.true in
    let same = c.loop-seat.auto.seat-items ∙ ap length c.deref_mut-seat-items.ensures.value in (
      ap (λ s. take (i + 1) (set now i s)) c.free_from_gone.ensures ∙ mapped_more without_gone seats now i c.seat-item.result (get_or now i c.seat-item.result) within (omega (arith, same, within)) c.loop-seat.invariant.1 refl c.loop-seat.invariant.0,
      ap (λ s. drop (i + 1) (set now i s)) c.free_from_gone.ensures ∙ rest_less without_gone seats now i c.seat-item.result (get_or now i c.seat-item.result) within (omega (arith, same, within)) c.loop-seat.invariant.1 refl,
    )
