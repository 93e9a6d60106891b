use Rattle.std.proofs.Common.{take}
use Rattle.fab_reach_base.specs.Adding.{Adds}
use Rattle.fab_reach_base.specs.Views.{seen}
use Rattle.fab_desk_base.specs.Tenants.{Has}
use Rattle.fab_desk_trials.specs.Gathered.{IsOfSomeStep}
use Rattle.fab_desk_trials.proofs.plan_steps.add_steps.Given as goal

abbrev pub invariant-loop-step : goal.invariant-loop-step
invariant-loop-step g l = Adds (IsOfSomeStep (seen l.view) (take l.step-index l.steps)) (Has l.fn.tenants) (Has l.tenants)
