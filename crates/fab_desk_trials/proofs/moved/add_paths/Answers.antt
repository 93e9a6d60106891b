use Rattle.fab_reach_base.specs.Views.{seen}
use Rattle.fab_reach_base.proofs.Adding.{before_next}
use Rattle.fab_desk_base.specs.Tenants.{Has, IsPathOf}
use Rattle.fab_desk_trials.proofs.moved.add_paths.Goals as goal

pub loop-path-preserved : goal.loop-path-preserved
loop-path-preserved g c =
    before_next (IsPathOf (seen c.args.view.now)) c.args.paths.now c.loop-path.path-index c.path-item.result (Has c.args.tenants.now) (Has c.loop-path.tenants) (Has c.add_path.new.tenants) c.loop-path-test.true c.path-item.is c.loop-path.invariant c.in_ok-add_path.ensures
