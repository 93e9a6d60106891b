use Rattle.std.proofs.Common.{sym, ap, ◌∙◌, subst}
use mathlib.Core.Bool.{true≢false}
use Rattle.fab_reach_base.specs.Records.{Records}
use Rattle.fab_world.specs.Worlds.{WorldRows, records_of}
use Rattle.fab_looks.specs.Links.{IsExplained}
use Rattle.fab_looks.specs.Told.{without_volume}
use Rattle.fab_looks.proofs.Unseen.{unseen_host, untold_is}
use Rattle.fab_looks.proofs.telling.told.Goals as goal

pub returns-then-not-is_open_to : goal.returns-then-not-is_open_to
returns-then-not-is_open_to g c = record {
  both = λ s _. absurd (true≢false (sym (c.is_open_to.ensures.1 s) ∙ c.if-not-is_open_to.true));
  no_host = λ _. unseen_host (records_of c.args.world.now) c.args.host.now c.args.volume.now;
  no_volume = λ s _. absurd (true≢false (sym (c.is_open_to.ensures.1 s) ∙ c.if-not-is_open_to.true));
}

pub returns-then-not-is_open_to-2 : goal.returns-then-not-is_open_to-2
returns-then-not-is_open_to-2 g c =
    let w = records_of c.args.world.now in
    let host = c.args.host.now in
    let volume = c.args.volume.now in
    let explained = subst (λ (r : Records). IsExplained r host volume c.in_ok-why.why) (c.of-view.ensures ∙ ap (λ (v : WorldRows). records_of v) c.world.view_is) c.in_ok-why.ensures in
    record {
      both = λ _ v. absurd (true≢false (sym (c.is_open_to-2.ensures.1 v) ∙ c.if-not-is_open_to-2.true));
      no_host = λ n. absurd (n (c.is_open_to.ensures.0 c.if-not-is_open_to.false));
      no_volume = λ _ _. subst (λ y. IsExplained (without_volume w volume) host volume y) (sym c.untold.ensures) (untold_is w host volume c.in_ok-why.why explained);
    }
