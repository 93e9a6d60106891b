use Rattle.fab_reach_base.specs.Orders.{Has}
use Rattle.fab_reach_base.proofs.Adding.{before_next}
use Rattle.fab_looks.specs.Inner.Offers.{PairPath}
use Rattle.fab_looks.proofs.offering.add_target.Goals as goal

pub loop-p-preserved : goal.loop-p-preserved
loop-p-preserved g c =
    before_next (PairPath c.args.group.now c.args.volume.now c.args.q.now) c.args.ports.now c.loop-p.p-index c.p-item.result (Has c.args.paths.now) (Has c.loop-p.paths) (Has c.add_pair.new.paths) c.loop-p-test.true c.p-item.is c.loop-p.invariant c.in_ok-add_pair.ensures
