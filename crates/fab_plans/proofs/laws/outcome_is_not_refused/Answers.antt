use Rattle.fab_plans.proofs.OnePlan.{outcome_or_refused}
use Rattle.fab_plans.proofs.laws.outcome_is_not_refused.Goals as goal

pub returns : goal.returns
returns c = λ v steps old a n r h k. outcome_or_refused v steps old a n r h k
