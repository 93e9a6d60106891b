use Rattle.fab_reach_base.specs.Orders.{Has}
use Rattle.fab_reach_pairs.proofs.Asked.{pair_added}
use Rattle.fab_reach_pairs.proofs.asking.add_pair.Goals as goal

pub returns-clause-paths : goal.returns-clause-paths
returns-clause-paths g c =
    pair_added (g.S.Sight.world c.args.sight.now) c.args.p.now c.args.q.now c.as_slice.result.now c.in_ok-these.these.items (Has c.args.paths.now) (Has c.add_listed.new.paths) c.in_ok-these.ensures.paths c.as_slice.ensures.value c.in_ok-add_listed.ensures
