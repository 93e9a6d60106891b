use Rattle.std.proofs.Common.{ℕ, List, rules}
use Rattle.std.specs.FinMap as map
use Rattle.std.proofs.lemmas.Iterator.{cases_from_all}
use Rattle.std.proofs.lemmas.Iterator.Consumers.{YieldsList-from_rest}
use Rattle.fab_mapping_base.specs.Fitting.{IsVolumeOn}
use Rattle.fab_mapping_base.proofs.Passed.{entries_have}
use Rattle.fab_mapping_base.proofs.sound.has_volumes.Goals as goal

pub returns : goal.returns
returns g c =
    let P = λ (_ : ℕ). IsVolumeOn c.args.inventory.now c.args.array.now in
    entries_have P c.args.group.now.units c.all.result
    (cases_from_all _ _ _ (λ (e : ℕ × List ℕ). P e.0 e.1) (λ e. ¬ P e.0 e.1) c.all.ensures.ran (YieldsList-from_rest (map.entries c.args.group.now.units) c.units.ensures) (λ x r k. search rules) (λ x r k. search rules))
