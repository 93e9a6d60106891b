use Rattle.std.proofs.Common.{◌<◌, ◌≤◌, List, length, sym, subst}
use Rattle.fab_wire_gathering.specs.Rounds.{HasGoneOn}
use Rattle.fab_wire_gathering.proofs.Each.{HaveGoneOn, all_written, next_one, none_yet}
use Rattle.fab_wire_gathering.proofs.gathering.Gathering.go_on_with_all.Goals as goal

pub loop-place-init : goal.loop-place-init
loop-place-init g c = subst (HaveGoneOn HasGoneOn c.args.self.now.seats.items 0) (sym c.deref_mut-seat-items.ensures.value) (none_yet HasGoneOn c.args.self.now.seats.items)

pub loop-place-preserved : goal.loop-place-preserved
loop-place-preserved g c =
    let now = c.loop-place.seat-items in
    let i = c.loop-place.place in
    let within = subst (λ n. i < n) (sym c.loop-place.auto.seat-items) c.loop-place-test.true in
    next_one HasGoneOn c.args.self.now.seats.items i now c.seat-item.result c.go_on_in.new.seat within c.loop-place.invariant c.go_on_in.ensures

pub returns-clause-each : goal.returns-clause-each
returns-clause-each g c =
    let seats = c.args.self.now.seats in
    let all = subst (λ (xs : List _). length xs ≤ c.loop-place.place) c.deref_mut-seat-items.ensures.value c.loop-place-test.false in
    all_written HasGoneOn seats.items c.loop-place.place seats.len c.loop-place.seat-items seats.ok.0 all c.loop-place.invariant
