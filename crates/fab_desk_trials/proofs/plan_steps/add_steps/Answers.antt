use Rattle.fab_reach_base.specs.Views.{seen}
use Rattle.fab_reach_base.proofs.Adding.{before_next}
use Rattle.fab_desk_base.specs.Tenants.{Has}
use Rattle.fab_desk_trials.specs.Gathered.{IsOfStep}
use Rattle.fab_desk_trials.proofs.plan_steps.add_steps.Goals as goal

pub loop-step-preserved : goal.loop-step-preserved
loop-step-preserved g c =
    before_next (IsOfStep (seen c.args.view.now)) c.args.steps.now c.loop-step.step-index c.step-item.result (Has c.args.tenants.now) (Has c.loop-step.tenants) (Has c.add_step.new.tenants) c.loop-step-test.true c.step-item.is c.loop-step.invariant c.in_ok-add_step.ensures
