use Rattle.fab_reach_base.proofs.Adding.{before_next}
use Rattle.fab_looks_ways.specs.Inner.Offers.{HasUnit}
use Rattle.fab_looks_ways.specs.Offers.{IsUnitAt}
use Rattle.fab_looks_ways.proofs.offers.add_all_named.Goals as goal

pub loop-name-preserved : goal.loop-name-preserved
loop-name-preserved g c =
    before_next (IsUnitAt c.args.mapping.now c.args.volume.now) c.args.names.now c.loop-name.name-index c.name-item.result (HasUnit c.args.units.now) (HasUnit c.loop-name.units) (HasUnit c.add_named.new.units) c.loop-name-test.true c.name-item.is c.loop-name.invariant c.in_ok-add_named.ensures
