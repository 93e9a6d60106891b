use Rattle.std.proofs.Common.{ℕ, ◌≤◌, sym, ap, subst}
use Rattle.fab_reach_base.proofs.fab_lemmas.SeenMaps.{same_look_ups}
use Rattle.fab_reach_base.specs.fab_mapping.Soundness.{Each}
use Rattle.fab_reach_base.proofs.fab_names.OrderLaws.{name_total}
use Rattle.fab_plans.specs.Plans.{PlanRows}
use Rattle.fab_plans.specs.fab_plans_base.Plans.{IsWithinLimits}
use Rattle.fab_world.specs.declared.limits.TheConstants.{MOST_CHANGES}
use Rattle.fab_world.proofs.kept.is_sound_plan.Goals as goal

pub returns : goal.returns
returns g c =
    let steps = ap (λ (r : PlanRows). r.steps) c.plan-plan.ensures in
    let look = same_look_ups name_total c.plan-plan.result.now.approvals c.args.kept.now.approvals (ap (λ (r : PlanRows). r.approvals) c.plan-plan.ensures) in (
      λ t. record {
        steps = subst IsWithinLimits steps (c.is_within_limits.ensures.0 c.if-not-is_within_limits.false);
        approvals = subst (λ at. Each at (λ (revision : ℕ). revision ≤ MOST_CHANGES)) look (c.are_sound_approvals.ensures.0 t);
      },
      λ s. c.are_sound_approvals.ensures.1 (subst (λ at. Each at (λ (revision : ℕ). revision ≤ MOST_CHANGES)) (sym look) s.approvals),
    )
