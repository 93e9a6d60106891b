use Rattle.std.proofs.Common.{sym, ◌∙◌}
use mathlib.Core.Bool.{true≢false}
use Rattle.fab_reach_base.specs.fab_names.declared.fabric.Fabric.TheVariants.{A, B}
use Rattle.fab_world.proofs.Presents.{both_sound}
use Rattle.fab_world.proofs.present.has_sound_zonings.Goals as goal

pub returns-then-not-has_sound_zoning : goal.returns-then-not-has_sound_zoning
returns-then-not-has_sound_zoning g c = (
  λ t. absurd (true≢false (sym t)),
  λ s. absurd (true≢false (sym (c.has_sound_zoning.ensures.1 (s.fabrics A, s.sound A)) ∙ c.if-not-has_sound_zoning.true)),
)

pub returns : goal.returns
returns g c =
    let a = c.has_sound_zoning.ensures.0 c.if-not-has_sound_zoning.false in
    (λ t. both_sound c.args.config.now a (c.has_sound_zoning-2.ensures.0 t), λ s. c.has_sound_zoning-2.ensures.1 (s.fabrics B, s.sound B))
