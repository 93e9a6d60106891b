use Rattle.std.proofs.Common.{◌≡◌, take, subst, sym, arith, ap, ◌∙◌}
use Rattle.std.proofs.lemmas.List.{take_all}
use Rattle.std.proofs.lemmas.List.Elements.{All-more, recursion_from_All}
use Rattle.std.proofs.lemmas.Grind.{common_steps}
use Rattle.fab_plans_base.specs.Plans.{IsStep, Spells, plan_text}
use Rattle.fab_plans_text.proofs.Printed.{printed_again}
use Rattle.fab_plans_text.proofs.print.print_plan.Goals as goal

pub returns-clause-read : goal.returns-clause-read
returns-clause-read g c within =
    let steps = c.args.steps.now in
    let all : take c.loop-step.step-index steps ≡ steps = take_all c.loop-step.step-index steps (omega arith) in
    let valid = recursion_from_All IsStep steps (rw all at c.loop-step.invariant.valid) in
    subst (λ text. Spells text steps) (sym (c.loop-step.invariant.printed ∙ ap plan_text all)) (printed_again steps valid within)

pub loop-step-preserved : goal.loop-step-preserved
loop-step-preserved g c = record {
  printed = grind (arith, common_steps);
  valid = All-more IsStep c.args.steps.now c.loop-step.step-index c.step-item.result c.loop-step-test.true c.loop-step.invariant.valid (subst IsStep c.step-item.is c.in_ok-push_step.ensures.valid);
}
