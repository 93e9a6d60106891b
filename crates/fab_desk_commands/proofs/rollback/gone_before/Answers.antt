use Rattle.std.proofs.Common.{List, MatchOption, sym, subst}
use Rattle.fab_reach_base.specs.fab_mapping.Gone.{IsFirstGone}
use Rattle.fab_reach_base.specs.fab_mapping.Soundness.{Fits}
use Rattle.fab_store_rows.specs.declared.config_row.ConfigRow.{ConfigRow}
use Rattle.fab_store_edits.specs.Led.{IsLed}
use Rattle.fab_world.specs.Plans.{change_in}
use Rattle.fab_world.specs.Worlds.{WorldRows}
use Rattle.fab_desk_commands.proofs.EditedBack.{led_to}
use Rattle.fab_desk_commands.proofs.rollback.gone_before.Goals as goal

pub returns : goal.returns
returns g c =
    let w = c.args.world.now in
    let d = c.args.config.now in
    let change = change_in c.in-Some.undo.now in
    let led = subst (λ (xs : List ConfigRow). IsLed w.config d change.added xs) (sym c.as_slice.ensures.value) (led_to w c.args.kept.now change c.in-Some.ensures d c.requires.before) in
    let fits = subst (λ (v : WorldRows). Fits v.inventory w.config.mapping) (sym c.world.view_is) c.requires.sound.fits in
    subst (λ (v : WorldRows). MatchOption c.gone_there.result (Fits v.inventory d.mapping) (IsFirstGone v.inventory d.mapping)) c.world.view_is (c.gone_there.ensures w.config change.added fits led)
