use Rattle.fab_plans_base.proofs.Unique.{one_plan}
use Rattle.fab_plans_text.proofs.laws.one_plan_a_text.Goals as goal

pub returns : goal.returns
returns c text steps others h k = one_plan _ steps others h.lines k.lines
