use Rattle.fab_reach_pairs.proofs.Asked.{all_asked}
use Rattle.fab_reach_pairs.proofs.asking.all_pairs.Goals as goal

pub returns-clause-paths : goal.returns-clause-paths
returns-clause-paths g c = all_asked (g.S.Sight.world c.args.sight.now) c.args.ports.now c.new-paths.result c.add_all.new.paths c.requires c.new-paths.ensures.empty c.in_ok-add_all.ensures.paths
