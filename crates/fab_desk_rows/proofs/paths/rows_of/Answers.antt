use Rattle.fab_reach_base.specs.Views.{seen}
use Rattle.fab_desk_rows.proofs.PathsTold.{rows_listed}
use Rattle.fab_desk_rows.proofs.paths.rows_of.Goals as goal

pub returns : goal.returns
returns g c = rows_listed (seen c.args.view.now) c.args.paths.now c.new-rows.result c.add_path_rows.new.rows c.in_ok-items.items.items c.new-rows.ensures.empty c.len-count.ensures.ordered c.in_ok-items.ensures c.in_ok-add_path_rows.ensures
