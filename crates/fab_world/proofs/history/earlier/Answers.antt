use Rattle.std.proofs.Common.{sym}
use Rattle.fab_store_drafts.proofs.fab_store_edits.Differing.{same_difference}
use Rattle.fab_world.specs.Plans.{change_in}
use Rattle.fab_world.proofs.WaysBack.{found_as, none_led, none_alike, only_alike}
use Rattle.fab_world.proofs.history.earlier.Goals as goal

pub returns-then-not-branch : goal.returns-then-not-branch
returns-then-not-branch g c =
    let change = change_in c.args.change.now in
    none_led c.args.now.now change
    (λ b x. c.in_ok-lead.ensures.none c.if-not-branch.true b (same_difference b c.args.now.now c.in_ok-edited.edited change.taken change.added c.as_slice-2.result.now c.as_slice.result.now (sym c.in_ok-edited.ensures) (sym c.as_slice-2.ensures.value) (sym c.as_slice.ensures.value) x))

pub returns : goal.returns
returns g c =
    let change = change_in c.args.change.now in
    let differs =
    same_difference c.lead.new.config c.in_ok-edited.edited c.args.now.now c.as_slice-2.result.now c.as_slice.result.now change.taken change.added c.in_ok-edited.ensures c.as_slice-2.ensures.value c.as_slice.ensures.value (c.in_ok-lead.ensures.led c.if-not-branch.false) in
    found_as c.sound_alike.result (none_alike c.args.now.now c.lead.new.config change differs) (only_alike c.args.now.now c.lead.new.config change differs) c.sound_alike.ensures
