use Rattle.fab_reach_index.proofs.Placed.{tree_is}
use Rattle.fab_reach_moves.specs.Inner.Saying.{IsSaid}
use Rattle.fab_reach_moves.proofs.saying.items_said.Goals as goal

pub returns : goal.returns
returns g c = tree_is g.K.Ord.cmp g.X.Ord.cmp (IsSaid g.S.Saying.says c.args.rows.now) c.new-sets.result c.add_items.new.sets c.new-sets.ensures.empty c.in_ok-add_items.ensures
