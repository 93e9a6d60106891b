use Rattle.std.proofs.Common.{refl}
use Rattle.std.proofs.lemmas.Option.{slice_get_read}
use Rattle.fab_wire_gathering.specs.Rounds.{HasGoneOn}
use Rattle.fab_wire_gathering.proofs.Each.{all_stay, one_again}
use Rattle.fab_wire_gathering.proofs.Rounds.{stays, goes_on_twice}
use Rattle.fab_wire_gathering.proofs.gathering.Gathering.go_on_with_ready.Goals as goal

pub loop-event-init : goal.loop-event-init
loop-event-init g c = all_stay HasGoneOn c.args.self.now.seats.items stays

pub loop-event-preserved-in-Some-get_mut : goal.loop-event-preserved-in-Some-get_mut
loop-event-preserved-in-Some-get_mut g c =
    let seats = c.loop-event.self.1.1.0.items in
    let place = c.token-place.result.0 in
    let here = c.in-Some-get_mut.seat.now in
    let at = slice_get_read seats _ place here refl c.in-Some-get_mut.ensures.item.3.0 c.in-Some-get_mut.ensures.value in
    one_again HasGoneOn c.args.self.now.seats.items goes_on_twice seats place here c.go_on_in.new.seat c.loop-event.invariant at c.go_on_in.ensures

pub loop-event-preserved : goal.loop-event-preserved
loop-event-preserved g c = c.loop-event.invariant

pub returns-clause-each : goal.returns-clause-each
returns-clause-each g c = c.loop-event.invariant
