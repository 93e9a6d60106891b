use Rattle.std.proofs.Common.{sym, subst}
use Rattle.fab_reach_base.specs.fab_mapping.Mappings.{HasNoClash}
use Rattle.fab_reach_base.specs.fab_mapping.Soundness.{IsSound}
use Rattle.fab_world.proofs.Presents.{none_found, not_found}
use Rattle.fab_world.proofs.present.is_sound_alone.Goals as goal

pub returns : goal.returns
returns g c = (
  λ t. record {
    parts = record { zonings = c.has_sound_zonings.ensures.0 c.if-not-has_sound_zonings.false; mapping = subst IsSound c.mapping-mapping.ensures (c.is_sound.ensures.0 c.if-not-is_sound.false) };
    no_clash = subst HasNoClash c.mapping-mapping.ensures (none_found c.mapping-mapping.result.now c.in_ok-clash.clash c.is_none.result c.is_none.ensures c.in_ok-clash.ensures t);
  },
  λ s. not_found c.mapping-mapping.result.now c.in_ok-clash.clash c.is_none.result c.is_none.ensures c.in_ok-clash.ensures (subst HasNoClash (sym c.mapping-mapping.ensures) s.no_clash),
)
