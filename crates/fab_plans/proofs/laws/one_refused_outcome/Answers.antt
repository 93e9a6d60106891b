use Rattle.fab_plans.proofs.OnePlan as plan
use Rattle.fab_plans.proofs.laws.one_refused_outcome.Goals as goal

pub returns : goal.returns
returns c = λ v steps old m n r q h k. plan.one_refused_outcome v steps old m n r q h k
