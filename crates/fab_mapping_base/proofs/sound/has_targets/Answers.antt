use Rattle.std.proofs.Common.{ℕ, refl, rules}
use Rattle.std.specs.Cmp.{nat_cmp_total}
use Rattle.std.specs.FinSet as set
use Rattle.std.proofs.lemmas.Iterator.{cases_from_all}
use Rattle.std.proofs.lemmas.Iterator.Consumers.{YieldsList-from_rest}
use Rattle.fab_mapping_base.specs.Fitting.{IsPortOf}
use Rattle.fab_mapping_base.proofs.Passed.{members_have}
use Rattle.fab_mapping_base.proofs.sound.has_targets.Goals as goal

pub returns : goal.returns
returns g c =
    let P = IsPortOf c.args.inventory.now c.args.array.now in
    members_have nat_cmp_total set.nat_cmp-IsAntisymmetric P c.targets.result c.args.group.now.targets c.all.result c.targets.ensures.targets
    (cases_from_all _ _ _ P (λ (x : ℕ). ¬ P x) c.all.ensures.ran (YieldsList-from_rest c.targets.result refl) (λ x r k. search rules) (λ x r k. search rules))
