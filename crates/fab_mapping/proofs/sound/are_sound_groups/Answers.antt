use Rattle.std.proofs.Common.{rules}
use Rattle.std.specs.BTreeMap.{get, values}
use Rattle.std.proofs.lemmas.Iterator.{cases_from_all}
use Rattle.std.proofs.lemmas.Iterator.Consumers.{YieldsList-from_rest}
use Rattle.fab_mapping_base.specs.fab_names.Orders.{name_cmp}
use Rattle.fab_mapping.specs.Soundness.{IsSoundGroup}
use Rattle.fab_mapping.proofs.Passed.{values_have}
use Rattle.fab_mapping.proofs.sound.are_sound_groups.Goals as goal

pub returns : goal.returns
returns g c =
    let P = IsSoundGroup (get name_cmp c.args.host_groups.now) in
    values_have P c.args.groups.now c.all.result c.values.ensures.ordered
    (cases_from_all _ _ _ P (λ x. ¬ P x) c.all.ensures.ran (YieldsList-from_rest (values c.args.groups.now) c.values.ensures.rest) (λ x r k. search rules) (λ x r k. search rules))
