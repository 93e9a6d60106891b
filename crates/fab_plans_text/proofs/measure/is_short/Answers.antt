use Rattle.std.proofs.Common.{refl}
use Rattle.fab_plans_base.specs.Limits.{most_bytes}
use Rattle.fab_plans_base.specs.Plans.{step_text}
use Rattle.fab_plans_text.proofs.Measures.{less_left, too_long, all_short}
use Rattle.fab_plans_text.proofs.measure.is_short.Goals as goal

pub loop-step-init : goal.loop-step-init
loop-step-init g c = refl

pub loop-step-preserved : goal.loop-step-preserved
loop-step-preserved g c =
    less_left step_text c.args.steps.now c.loop-step.step-index c.loop-step.left c.step_len-len.result most_bytes c.step-item.result c.loop-step-test.true c.step-item.is c.step_len-len.ensures c.if-len-left.false c.loop-step.invariant

pub returns-then-len-left : goal.returns-then-len-left
returns-then-len-left g c = (
  λ h. absurd cc,
  λ short. absurd (too_long step_text c.args.steps.now c.loop-step.step-index c.loop-step.left c.step_len-len.result most_bytes c.step-item.result c.loop-step-test.true c.step-item.is c.step_len-len.ensures c.if-len-left.true c.loop-step.invariant short),
)

pub returns : goal.returns
returns g c = (
  λ h. all_short step_text c.args.steps.now c.loop-step.step-index c.loop-step.left most_bytes c.loop-step-test.false c.loop-step.invariant,
  λ short. refl,
)
