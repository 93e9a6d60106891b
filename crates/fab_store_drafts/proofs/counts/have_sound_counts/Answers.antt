use Rattle.std.proofs.Common.{sym, ◌∙◌, subst}
use mathlib.Core.Bool.{true≢false}
use Rattle.fab_reach_base.specs.fab_names.declared.fabric.Fabric.TheVariants.{A, B}
use Rattle.fab_reach_base.specs.Records.{zoning_at}
use Rattle.fab_store_drafts.specs.There.{HasSoundCounts}
use Rattle.fab_store_drafts.proofs.Counted.{both_fabrics}
use Rattle.fab_store_drafts.proofs.counts.have_sound_counts.Goals as goal

pub returns-then-not-has_sound_counts : goal.returns-then-not-has_sound_counts
returns-then-not-has_sound_counts g c = (
  λ t. absurd (true≢false (sym t)),
  λ all. absurd (true≢false (sym (c.has_sound_counts.ensures.1 (subst HasSoundCounts (sym c.zoning.ensures) (all A))) ∙ c.if-not-has_sound_counts.true)),
)

pub returns : goal.returns
returns g c = (
  λ t. both_fabrics (λ f. HasSoundCounts (zoning_at c.args.config.now f)) (subst HasSoundCounts c.zoning.ensures (c.has_sound_counts.ensures.0 c.if-not-has_sound_counts.false)) (subst HasSoundCounts c.zoning-2.ensures (c.has_sound_counts-2.ensures.0 t)),
  λ all. c.has_sound_counts-2.ensures.1 (subst HasSoundCounts (sym c.zoning-2.ensures) (all B)),
)
