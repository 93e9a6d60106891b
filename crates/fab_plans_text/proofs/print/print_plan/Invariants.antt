use Rattle.std.proofs.Common.{◌≡◌, take, All}
use Rattle.std.specs.String.{string_bytes}
use Rattle.fab_plans_base.specs.Plans.{plan_text, IsStep}
use Rattle.fab_plans_text.proofs.print.print_plan.Given as goal

abbrev pub invariant-loop-step : goal.invariant-loop-step
invariant-loop-step g l = record {
  printed : string_bytes l.text ≡ plan_text (take l.step-index l.steps);
  valid : All IsStep (take l.step-index l.steps);
}
