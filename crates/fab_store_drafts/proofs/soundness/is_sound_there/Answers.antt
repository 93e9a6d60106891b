use Rattle.std.proofs.Common.{subst}
use Rattle.fab_store_drafts.specs.There.{HasFewGroups}
use Rattle.fab_store_drafts.proofs.Law.{there_is}
use Rattle.fab_store_drafts.proofs.soundness.is_sound_there.Goals as goal

pub returns : goal.returns
returns g c =
    there_is c.args.config.now c.args.go.now c.args.come.now c.has_no_clash.result (c.all_may_come.ensures.0 c.if-not-all_may_come.false) (c.all_may_go.ensures.0 c.if-not-all_may_go.false)
    (c.have_sound_counts.ensures.0 c.if-not-have_sound_counts.false) (subst HasFewGroups c.mapping.ensures (c.has_few_groups.ensures.0 c.if-not-has_few_groups.false)) c.has_no_clash.ensures
