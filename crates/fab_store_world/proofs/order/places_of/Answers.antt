use Rattle.fab_reach_base.proofs.Adding.{before_next}
use Rattle.fab_store_world.specs.Orders.{IsAt, HasPlace}
use Rattle.fab_store_world.proofs.Orders.{places_listed}
use Rattle.fab_store_world.proofs.order.places_of.Goals as goal

pub loop-row-preserved : goal.loop-row-preserved
loop-row-preserved g c =
    before_next IsAt c.args.rows.now c.loop-row.row-index c.row-item.result (HasPlace c.new-places.result) (HasPlace c.loop-row.places) (HasPlace c.add_place.new.places) c.loop-row-test.true c.row-item.is c.loop-row.invariant c.in_ok-add_place.ensures

pub returns : goal.returns
returns g c = places_listed c.args.rows.now c.loop-row.row-index c.new-places.result c.loop-row.places c.loop-row-test.false c.new-places.ensures.empty c.len-count.ensures.ordered c.loop-row.invariant
