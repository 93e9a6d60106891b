use Rattle.std.proofs.Common.{◌≡◌, ◌+◌, length, arith}
use Rattle.std.specs.Map.Iter.{deref}
use Rattle.std.proofs.lemmas.Map.Iter.{rest_more}
use Rattle.fab_store_world.proofs.Orders.{next_position, place_more}
use Rattle.fab_store_world.proofs.order.order_from.Goals as goal

pub returns-then-place-eq0 : goal.returns-then-place-eq0
returns-then-place-eq0 g c = λ order whole.
    let i = c.loop-place.invariant in
    let at = next_position c.args.places.now.keys i.0 c.loop-place.place-iterator c.next.new.self c.in-Some.place.now c.loop-place.order.items order i.1 (rest_more deref c.loop-place.place-iterator c.next.new.self c.next.result c.in-Some.place c.in-Some.is c.next.ensures.steps) i.2 whole in
    omega (arith, c.if-place-eq0.true)

pub returns-then-place-len : goal.returns-then-place-len
returns-then-place-len g c = λ order whole.
    let i = c.loop-place.invariant in
    let at = next_position c.args.places.now.keys i.0 c.loop-place.place-iterator c.next.new.self c.in-Some.place.now c.loop-place.order.items order i.1 (rest_more deref c.loop-place.place-iterator c.next.new.self c.next.result c.in-Some.place c.in-Some.is c.next.ensures.steps) i.2 whole in
    omega (arith, c.if-place-eq0.false, c.if-place-len.true, c.len.ensures)

pub loop-place-preserved : goal.loop-place-preserved
loop-place-preserved g c =
    let i = c.loop-place.invariant in
    let rest = rest_more deref c.loop-place.place-iterator c.next.new.self c.next.result c.in-Some.place c.in-Some.is c.next.ensures.steps in
    let at : c.in-Some.place.now.0 ≡ length c.loop-place.order.items + 1 = omega (arith, c.if-place-eq0.false, c.if-place-len.false, c.len.ensures) in
    place_more c.args.places.now.keys i.0 c.loop-place.place-iterator c.next.new.self c.in-Some.place.now c.loop-place.order.items c.push.new.self.items i.1 rest i.2 at c.in_ok-push.ensures.items
