use Rattle.std.proofs.Common.{◌∙◌}
use Rattle.fab_plans_base.specs.Plans.{plan_text}
use Rattle.fab_plans_text.proofs.PrintedTexts.{same_text}
use Rattle.fab_plans_text.proofs.spelled.is_printed.Goals as goal

pub returns : goal.returns
returns g c = same_text c.args.text.now c.as_str.result.now (plan_text c.args.steps.now) c.eq.result c.eq.ensures (c.as_str.ensures.value ∙ c.in_ok-printed.ensures.text)
