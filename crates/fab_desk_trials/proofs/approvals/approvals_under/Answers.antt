use Rattle.std.proofs.Common.{sym, ap}
use Rattle.fab_world.specs.fab_plans.Plans.{PlanRows}
use Rattle.fab_desk_trials.proofs.ApprovalsListed.{approvals_found}
use Rattle.fab_desk_trials.proofs.approvals.approvals_under.Goals as goal

pub returns : goal.returns
returns g c = approvals_found c.args.world.now c.args.name.now c.in-Some.kept.now c.plan-plan.result.now.approvals c.in_ok-list.list.items (sym c.in-Some.ensures) (ap (λ (p : PlanRows). p.approvals) c.plan-plan.ensures) c.in_ok-list.ensures
