use Rattle.std.proofs.Common.{ℕ, List, sym, ◌∙◌, subst}
use mathlib.Core.Bool.{true≢false}
use Rattle.fab_mapping_base.specs.Fitting.{IsVolumeOn}
use Rattle.fab_plans_rows.proofs.Firsts.{volume_lost}
use Rattle.fab_plans_rows.proofs.lost.lost_volume.Goals as goal

pub returns : goal.returns
returns g c =
    volume_lost c.args.inventory.now c.args.group.now c.args.unit c.args.volume.now
    (λ there. true≢false (sym (c.is_volume_on.ensures.1 (subst (λ (a : List ℕ). IsVolumeOn c.args.inventory.now a c.args.volume.now) (sym c.array.ensures) there)) ∙ c.if-is_volume_on.false))
