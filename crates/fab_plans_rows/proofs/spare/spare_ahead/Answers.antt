use Rattle.std.proofs.Common.{refl, sym}
use Rattle.fab_store_drafts.proofs.fab_store_edits.Differing.{same_difference, turned}
use Rattle.fab_plans_rows.proofs.spare.spare_ahead.Goals as goal

pub returns : goal.returns
returns g c sound now_sound differs =
    let before = c.args.before in
    let now = c.args.now.now in
    let change = c.args.change.now in
    c.led.ensures now now_sound sound
    (same_difference now before before change.added.items change.taken.items c.as_slice-2.result.now c.as_slice.result.now refl (sym c.as_slice-2.ensures.value) (sym c.as_slice.ensures.value) (turned before now change.taken.items change.added.items differs))
