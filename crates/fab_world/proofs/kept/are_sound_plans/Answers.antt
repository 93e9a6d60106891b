use Rattle.std.proofs.Common.{rules}
use Rattle.std.specs.BTreeMap.{values}
use Rattle.std.proofs.lemmas.Iterator.{cases_from_all}
use Rattle.std.proofs.lemmas.Iterator.Consumers.{YieldsList-from_rest}
use Rattle.fab_reach_base.proofs.fab_mapping.Passed.{values_have}
use Rattle.fab_world.specs.Soundness.{IsSoundPlan}
use Rattle.fab_world.proofs.kept.are_sound_plans.Goals as goal

pub returns : goal.returns
returns g c =
    let P = IsSoundPlan in
    values_have P c.args.plans.now c.all.result c.values.ensures.ordered
    (cases_from_all _ _ _ P (λ x. ¬ P x) c.all.ensures.ran (YieldsList-from_rest (values c.args.plans.now) c.values.ensures.rest) (λ x r k. search rules) (λ x r k. search rules))
