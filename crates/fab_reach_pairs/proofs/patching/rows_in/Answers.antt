use Rattle.fab_reach_base.specs.Orders.{path_cmp}
use Rattle.fab_reach_books.specs.Pairs.{pair_cmp}
use Rattle.fab_reach_index.proofs.Placed.{tree_is}
use Rattle.fab_reach_pairs.specs.Inner.Rows.{IsRowIn}
use Rattle.fab_reach_pairs.proofs.patching.rows_in.Goals as goal

pub returns : goal.returns
returns g c = tree_is pair_cmp path_cmp (IsRowIn c.args.paths.now) c.new-rows.result c.add_rows.new.rows c.new-rows.ensures.empty c.in_ok-add_rows.ensures
