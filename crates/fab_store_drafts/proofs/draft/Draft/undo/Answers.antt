use Rattle.std.proofs.Common.{sym}
use Rattle.fab_store_rows.proofs.Determined.{tidy_of}
use Rattle.fab_store_drafts.proofs.Law.{told_only, told_none, none_led}
use Rattle.fab_store_drafts.proofs.draft.Draft.undo.Goals as goal

pub returns-then-not-branch-clause-none : goal.returns-then-not-branch-clause-none
returns-then-not-branch-clause-none g c e =
    rw (sym c.as_slice-go.ensures.value, sym c.as_slice-come.ensures.value)
    (none_led c.args.self.now c.as_slice-come.result.now c.as_slice-go.result.now (c.in_ok-lead.ensures.none c.if-not-branch.true))

pub returns-clause-done : goal.returns-clause-done
returns-clause-done g c =
    rw (sym c.as_slice-go.ensures.value, sym c.as_slice-come.ensures.value)
    (told_only c.args.self.now c.lead.new.self c.as_slice-come.result.now c.as_slice-go.result.now c.requires (c.lead.ensures.tidy (tidy_of c.args.self.now c.requires.parts.zonings)) (c.in_ok-lead.ensures.led c.if-not-branch.false) c.is_sound_there.result c.is_sound_there.ensures)

pub returns-clause-none : goal.returns-clause-none
returns-clause-none g c =
    rw (sym c.as_slice-go.ensures.value, sym c.as_slice-come.ensures.value)
    (told_none c.args.self.now c.lead.new.self c.as_slice-come.result.now c.as_slice-go.result.now c.requires (c.lead.ensures.tidy (tidy_of c.args.self.now c.requires.parts.zonings)) (c.in_ok-lead.ensures.led c.if-not-branch.false) c.is_sound_there.result c.is_sound_there.ensures)
