use Rattle.std.proofs.Common.{◌≡◌, ◌+◌, length, take}
use Rattle.fab_plans_base.specs.Limits.{most_bytes}
use Rattle.fab_plans_base.specs.Plans.{plan_text}
use Rattle.fab_plans_text.proofs.measure.is_short.Given as goal

abbrev pub invariant-loop-step : goal.invariant-loop-step
invariant-loop-step g l = l.left + length (plan_text (take l.step-index l.steps)) ≡ most_bytes
