use Rattle.std.proofs.Common.{◌≡◌, IfSome, sym, ap, ◌∙◌, subst}
use Rattle.fab_store_rows.specs.Tidy.{IsTidy}
use Rattle.fab_store_edits.proofs.Differing.{same_difference}
use Rattle.fab_store_rows.proofs.Determined.{tidy_of}
use Rattle.fab_world.specs.Plans.{change_in}
use Rattle.fab_world.specs.Worlds.{WorldRows}
use Rattle.fab_desk_commands.proofs.EditedBack.{some_back, edited_back}
use Rattle.fab_desk_commands.proofs.rollback.config_before.Goals as goal

pub unreachable-requires-then-not-branch : goal.unreachable-requires-then-not-branch
unreachable-requires-then-not-branch g c =
    let w = c.args.world.now in
    let change = change_in c.in-Some.undo.now in
    let copied = c.in_ok-config.ensures.equal ∙ ap (λ (v : WorldRows). v.config) c.world.view_is in
    some_back w c.args.kept.now change c.in-Some.ensures c.requires.earlier
    (λ b x. c.in_ok-lead.ensures.none c.if-not-branch.true b (same_difference b w.config c.in_ok-config.config change.taken change.added c.as_slice-2.result.now c.as_slice.result.now (sym copied) (sym c.as_slice-2.ensures.value) (sym c.as_slice.ensures.value) x))

pub returns-clause-before : goal.returns-clause-before
returns-clause-before g c =
    let w = c.args.world.now in
    let change = change_in c.in-Some.undo.now in
    let copied = c.in_ok-config.ensures.equal ∙ ap (λ (v : WorldRows). v.config) c.world.view_is in
    let differs =
    same_difference c.lead.new.config c.in_ok-config.config w.config c.as_slice-2.result.now c.as_slice.result.now change.taken change.added copied c.as_slice-2.ensures.value c.as_slice.ensures.value (c.in_ok-lead.ensures.led c.if-not-branch.false) in
    edited_back w c.args.kept.now change c.in-Some.ensures c.requires.earlier c.lead.new.config (c.lead.ensures.tidy (subst IsTidy (sym copied) (tidy_of w.config c.requires.sound.config.parts.zonings))) differs

pub returns-clause-spare : goal.returns-clause-spare
returns-clause-spare g c = subst (λ (w : WorldRows). IfSome c.take_spare.new.spare (λ s. s ≡ w.config)) c.world.view_is c.take_spare.ensures.spare

pub returns-in_err-lead-clause-spare : goal.returns-in_err-lead-clause-spare
returns-in_err-lead-clause-spare g c = subst (λ (w : WorldRows). IfSome c.take_spare.new.spare (λ s. s ≡ w.config)) c.world.view_is c.take_spare.ensures.spare
