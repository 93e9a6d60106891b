use Rattle.fab_plans.proofs.OnePlan.{all_one}
use Rattle.fab_plans.proofs.laws.one_outcome.Goals as goal

pub returns : goal.returns
returns c = λ v steps old a b h k. all_one v steps old a b h.done k.done
