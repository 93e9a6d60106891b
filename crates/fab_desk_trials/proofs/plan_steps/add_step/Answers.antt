use Rattle.std.proofs.Common.{sym, ap, ◌∙◌}
use Rattle.fab_reach_base.specs.Views.{seen}
use Rattle.fab_world.specs.fab_plans_base.Actions.{step_of}
use Rattle.fab_desk_base.specs.Tenants.{Has}
use Rattle.fab_desk_trials.proofs.StepTenants.{of_zoning}
use Rattle.fab_desk_trials.proofs.plan_steps.add_step.Goals as goal

pub returns-in-Zoning : goal.returns-in-Zoning
returns-in-Zoning g c = of_zoning (seen c.args.view.now) c.in-Zoning.field-0 c.args.step.now (Has c.args.tenants.now) (ap step_of (sym c.in-Zoning.is) ∙ c.action.ensures.value)
