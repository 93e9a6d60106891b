use Rattle.std.proofs.Common.{refl, sym}
use Rattle.fab_store_drafts.proofs.fab_store_edits.Differing.{same_difference}
use Rattle.fab_plans_rows.proofs.spare.spare_after.Goals as goal

pub returns : goal.returns
returns g c =
    let after = c.args.after in
    let change = c.args.change.now in
    c.led.ensures c.args.before.now c.requires.before c.requires.after
    (same_difference c.args.before.now after after change.taken.items change.added.items c.as_slice-2.result.now c.as_slice.result.now refl (sym c.as_slice-2.ensures.value) (sym c.as_slice.ensures.value) c.requires.differs)
