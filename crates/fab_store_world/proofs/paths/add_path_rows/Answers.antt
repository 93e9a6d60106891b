use Rattle.fab_reach_base.specs.Views.{seen}
use Rattle.fab_reach_base.proofs.Adding.{before_next}
use Rattle.fab_store_world.specs.PathGathering.{Has, IsRowOf}
use Rattle.fab_store_world.proofs.paths.add_path_rows.Goals as goal

pub loop-path-preserved : goal.loop-path-preserved
loop-path-preserved g c =
    before_next (IsRowOf (seen c.args.view.now)) c.args.paths.now c.loop-path.path-index c.path-item.result (Has c.args.rows.now) (Has c.loop-path.rows) (Has c.add_row.new.rows) c.loop-path-test.true c.path-item.is c.loop-path.invariant c.in_ok-add_row.ensures
