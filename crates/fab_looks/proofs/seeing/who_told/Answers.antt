use Rattle.std.proofs.Common.{sym, ap, ◌∙◌, subst}
use mathlib.Core.Bool.{true≢false}
use Rattle.fab_reach_base.specs.Records.{Records}
use Rattle.fab_world.specs.Worlds.{WorldRows, records_of}
use Rattle.fab_looks.specs.Reachers.{AreReachers}
use Rattle.fab_looks.proofs.Sights.{told_seen, told_nobody, empty_get}
use Rattle.fab_looks.proofs.seeing.who_told.Goals as goal

pub returns-then-not-is_open_to : goal.returns-then-not-is_open_to
returns-then-not-is_open_to g c =
    told_nobody c.args.policy.now c.args.world.now c.args.id c.args.volume.now c.new.result (λ s. true≢false (sym (c.is_open_to.ensures.1 s) ∙ c.if-not-is_open_to.true)) (empty_get c.new.result c.new.ensures.empty)

pub returns : goal.returns
returns g c =
    told_seen c.args.policy.now c.args.world.now c.args.id c.args.volume.now c.in_ok-reachers.reachers c.in_ok-seen.seen (c.is_open_to.ensures.0 c.if-not-is_open_to.false)
    (subst (λ (r : Records). AreReachers r c.args.volume.now c.in_ok-reachers.reachers) (c.of-view.ensures ∙ ap (λ (v : WorldRows). records_of v) c.world.view_is) c.in_ok-reachers.ensures) c.in_ok-seen.ensures
