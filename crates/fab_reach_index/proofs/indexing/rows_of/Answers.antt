use Rattle.fab_zoning.specs.Edits.{IsIn}
use Rattle.fab_reach_books.specs.Pairs.{pair_cmp}
use Rattle.fab_reach_base.specs.Orders.{path_cmp}
use Rattle.fab_reach_index.specs.Indexes.{IsRowOf}
use Rattle.fab_reach_index.proofs.Placed.{tree_is, rows_all}
use Rattle.fab_reach_index.proofs.indexing.rows_of.Goals as goal

pub returns : goal.returns
returns g c w all = tree_is pair_cmp path_cmp (IsRowOf w) c.new-rows.result c.add_paths.new.rows c.new-rows.ensures.empty (rows_all w c.args.paths.now (IsIn pair_cmp path_cmp c.new-rows.result) (IsIn pair_cmp path_cmp c.add_paths.new.rows) all c.in_ok-add_paths.ensures)
