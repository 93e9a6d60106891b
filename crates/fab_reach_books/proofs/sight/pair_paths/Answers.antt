use Rattle.fab_reach_base.specs.Reach.{PathOf}
use Rattle.fab_reach_base.specs.Views.{seen}
use Rattle.fab_reach_base.proofs.Gathering.{filled, listed_all}
use Rattle.fab_reach_books.proofs.sight.pair_paths.Goals as goal

pub returns : goal.returns
returns g c =
    listed_all (PathOf (seen c.args.view.now) c.args.p.now c.args.q.now) c.add_known_pair.new.paths c.in_ok-items.items.items c.len-count.ensures.ordered c.in_ok-items.ensures
    (filled (PathOf (seen c.args.view.now) c.args.p.now c.args.q.now) c.new-paths.result c.add_known_pair.new.paths c.new-paths.ensures.empty c.in_ok-add_known_pair.ensures)
