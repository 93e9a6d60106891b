use Rattle.std.proofs.Common.{List, MatchOption, sym, ap, ◌∙◌, subst}
use Rattle.fab_world.specs.fab_plans_base.Steps.{PlanStep}
use Rattle.fab_world.specs.PlanRecords.{PlanRecord}
use Rattle.fab_store_world.specs.Parts.{standing_in, IsMadeOf}
use Rattle.fab_world.specs.fab_plans_text.KeptTexts.{IsTextOf}
use Rattle.fab_store_world.proofs.plans.plan_of.Goals as goal

pub returns : goal.returns
returns g c =
    let plan = c.kept.ensures.plan in
    let read = c.as_str.result.now in
    let told = subst (λ o. MatchOption o ((steps : List PlanStep) → ¬ IsTextOf read steps) (λ steps. IsTextOf read steps)) c.in-Some.is c.in_ok-text.ensures in
    let text = subst (λ t. IsTextOf t c.in-Some.text) c.as_str.ensures.value told in
    subst (λ r. IsMadeOf r c.args.parts.now c.kept.result) c.row.view_is (record {
      author = ap (λ (p : PlanRecord). p.author) plan;
      text = subst (IsTextOf _) (sym (ap (λ (p : PlanRecord). p.steps) plan)) text;
      approvals = ap (λ (p : PlanRecord). p.approvals) plan ∙ c.in_ok-approvals.ensures;
      standing = ap (λ (p : PlanRecord). p.standing) plan ∙ (λ i. standing_in c.row.inside.state (c.in_ok-taken.ensures.rows i) (c.in_ok-added.ensures.rows i));
      in_order = c.kept.ensures.in_order c.in_ok-taken.ensures.in_order c.in_ok-added.ensures.in_order;
    })
