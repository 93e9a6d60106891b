use Rattle.std.proofs.Common.{sym, ap, ◌∙◌}
use Rattle.fab_world.specs.fab_plans.Plans.{PlanRows}
use Rattle.fab_desk_trials.proofs.PlansNamed.{steps_found}
use Rattle.fab_desk_trials.proofs.named.steps_under.Goals as goal

pub returns : goal.returns
returns g c = steps_found c.args.world.now c.args.name.now c.in-Some.kept.now c.in_ok-steps.steps.items (sym c.in-Some.ensures) (c.in_ok-steps.ensures ∙ ap (λ (p : PlanRows). p.steps) c.plan-plan.ensures)
