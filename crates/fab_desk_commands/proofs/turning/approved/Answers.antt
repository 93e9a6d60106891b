use Rattle.std.proofs.Common.{sym, ◌∙◌}
use mathlib.Core.Bool.{true≢false}
use Rattle.fab_store_rows.specs.declared.record_row.PlanState.TheVariants as state
use Rattle.fab_desk_commands.proofs.PlanChecks.{approve_refused, author_refused}
use Rattle.fab_desk_commands.proofs.PlanTurns.{approve_made, approve_sound, in_state, one_author}
use Rattle.fab_desk_commands.proofs.turning.approved.Goals as goal

pub returns-in-Err-clause-err : goal.returns-in-Err-clause-err
returns-in-Err-clause-err g c = approve_refused g.row.A.Denot c.args.world.now c.args.caller.now c.args.plan.now c.in-Err.fault c.in-Err.ensures.err

pub returns-then-is_author-clause-err : goal.returns-then-is_author-clause-err
returns-then-is_author-clause-err g c =
    author_refused g.row.A.Denot c.args.world.now c.args.caller.now c.args.plan.now
    (in_state c.args.world.now c.args.plan.now c.in-Ok.kept.now c.in-Ok.ensures.ok.0 state.Staged c.in-Ok.ensures.ok.1)
    (c.in-Ok.kept.now, c.in-Ok.ensures.ok.0, c.is_author.ensures.0 c.if-is_author.true)

pub returns-clause-ok : goal.returns-clause-ok
returns-clause-ok g c =
    approve_made c.args.world.now c.args.plan.now c.in-Ok.kept.now c.in-Ok.ensures.ok.0 g.row.A.Denot c.in-Ok.ensures.ok.1 c.args.caller.now c.in-Ok-approvals_now.approvals c.in-Ok-approvals_now.ensures
    (λ author. true≢false (sym (c.is_author.ensures.1 (one_author c.args.world.now c.args.plan.now c.in-Ok.kept.now c.in-Ok.ensures.ok.0 c.args.caller.now author)) ∙ c.if-is_author.false))

pub returns-clause-sound : goal.returns-clause-sound
returns-clause-sound g c =
    approve_sound c.args.world.now c.args.plan.now c.in-Ok.kept.now c.in-Ok.ensures.ok.0 g.row.A.Denot c.in-Ok.ensures.ok.1 c.args.caller.now c.in-Ok-approvals_now.approvals c.in-Ok-approvals_now.ensures
