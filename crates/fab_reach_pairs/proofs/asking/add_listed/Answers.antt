use Rattle.fab_reach_base.specs.Orders.{Has}
use Rattle.fab_reach_base.proofs.Adding.{before_next, before_last}
use Rattle.fab_reach_base.proofs.Gathering.{adds_path}
use Rattle.fab_reach_pairs.proofs.Asked.{Is, all_listed}
use Rattle.fab_reach_pairs.proofs.asking.add_listed.Goals as goal

pub loop-path-preserved : goal.loop-path-preserved
loop-path-preserved g c =
    before_next Is c.args.these.now c.loop-path.path-index c.path-item.result (Has c.args.paths.now) (Has c.loop-path.paths) (Has c.insert.new.self) c.loop-path-test.true c.path-item.is c.loop-path.invariant
    (adds_path c.loop-path.paths c.insert.new.self c.path-item.result c.in_ok-insert.ensures.updates.0)

pub returns : goal.returns
returns g c = all_listed c.args.these.now (Has c.args.paths.now) (Has c.loop-path.paths) (before_last Is c.args.these.now c.loop-path.path-index (Has c.args.paths.now) (Has c.loop-path.paths) c.loop-path-test.false c.loop-path.invariant)
