use Rattle.std.proofs.Common.{refl, sym, subst, ◌+◌}
use Rattle.std.proofs.lemmas.Option.{slice_get_read}
use Rattle.fab_wire_gathering.specs.Inner.Seating.{earlier}
use Rattle.fab_wire_gathering.proofs.Seating.{SoFar, all_first, all_none, one_more}
use Rattle.fab_wire_gathering.proofs.seats.first_seat.Goals as goal

pub loop-place-preserved : goal.loop-place-preserved
loop-place-preserved g c =
    let total = g.met.K.Ord.total in
    let has = g.M.Measure.has c.args.measure.now in
    let seats = c.args.seats.now in
    subst (SoFar total has seats (c.loop-place.place + 1)) (sym c.earlier-first.ensures)
    (subst (λ key. SoFar total has seats (c.loop-place.place + 1) (earlier g.K.Ord.cmp c.loop-place.first c.loop-place.place key)) (sym c.of_seat.ensures)
    (one_more total has seats c.loop-place.place c.index-seats-place.result c.loop-place.first (slice_get_read seats _ c.loop-place.place c.index-seats-place.result refl c.loop-place-test.true c.index-seats-place.is) c.loop-place.invariant))

pub returns-in-Some : goal.returns-in-Some
returns-in-Some g c = all_first g.met.K.Ord.total (g.M.Measure.has c.args.measure.now) c.args.seats.now c.loop-place.place (c.in-Some.place, c.in-Some.field-0-1) c.loop-place-test.false (subst (SoFar g.met.K.Ord.total (g.M.Measure.has c.args.measure.now) c.args.seats.now c.loop-place.place) c.in-Some.is c.loop-place.invariant)

pub returns-in-None : goal.returns-in-None
returns-in-None g c = all_none g.met.K.Ord.total (g.M.Measure.has c.args.measure.now) c.args.seats.now c.loop-place.place c.loop-place-test.false (subst (SoFar g.met.K.Ord.total (g.M.Measure.has c.args.measure.now) c.args.seats.now c.loop-place.place) c.in-None.is c.loop-place.invariant)
