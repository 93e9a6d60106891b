use Rattle.std.proofs.Common.{sym, subst}
use Rattle.fab_store_rows.specs.declared.record_row.PlanState.TheVariants as state
use Rattle.fab_desk_base.specs.declared.command.Command.TheVariants.{Rollback}
use Rattle.fab_desk_base.specs.Trying.{IsMade}
use Rattle.fab_desk_commands.specs.Trials.{IsSoundAfter}
use Rattle.fab_desk_commands.proofs.Rollbacks.{has_earlier, some_in_force, restore_refused, rollback_made, rollback_sound, rollback_suits, rollback_tells, rolled_world}
use Rattle.fab_desk_commands.proofs.PlanChecks.{rollback_refused, other_last_refused}
use Rattle.fab_desk_commands.proofs.PlanTurns.{in_state}
use Rattle.fab_desk_commands.proofs.rollback.rolled_back.Goals as goal

pub returns-in-Err-clause-err : goal.returns-in-Err-clause-err
returns-in-Err-clause-err g c = λ caller. rollback_refused g.row.A.Denot c.args.world.now caller c.args.plan.now c.in-Err.fault c.in-Err.ensures.err

pub judge_last-requires : goal.judge_last-requires
judge_last-requires g c = some_in_force c.args.world.now c.args.plan.now c.in-Ok.kept.now c.in-Ok.ensures.ok.0 c.in-Ok.ensures.ok.1 c.requires.sound

pub returns-in-Err-judge_last-clause-err : goal.returns-in-Err-judge_last-clause-err
returns-in-Err-judge_last-clause-err g c = λ caller.
    other_last_refused g.row.A.Denot c.args.world.now caller c.args.plan.now (in_state c.args.world.now c.args.plan.now c.in-Ok.kept.now c.in-Ok.ensures.ok.0 state.Active c.in-Ok.ensures.ok.1) c.in-Err-judge_last.fault c.in-Err-judge_last.ensures.err

pub restored-requires-clause-earlier : goal.restored-requires-clause-earlier
restored-requires-clause-earlier g c = has_earlier c.args.world.now c.args.plan.now c.in-Ok.kept.now c.in-Ok.ensures.ok.0 c.in-Ok.ensures.ok.1 c.requires.sound c.in_default.ensures.ok.0 c.in_default.ensures.ok.1

pub returns-in-Err-restored-clause-err : goal.returns-in-Err-restored-clause-err
returns-in-Err-restored-clause-err g c = λ caller.
    restore_refused g.row.A.Denot c.args.world.now caller c.args.plan.now c.in-Ok.kept.now c.in-Ok.ensures.ok.0 c.in-Ok.ensures.ok.1 c.in_default.ensures.ok.0 c.in_default.ensures.ok.1 c.in-Err-restored.fault c.in-Err-restored.ensures.err

pub returns-in-Ok-parts_before-clause-ok : goal.returns-in-Ok-parts_before-clause-ok
returns-in-Ok-parts_before-clause-ok g c = λ caller.
    subst (IsMade {A = g.row.A.Denot} c.args.world.now caller (Rollback c.args.plan.now))
    (sym (rolled_world c.args.world.now c.args.plan.now c.in-Ok-restored.config c.in_default.ensures.ok.0 c.in_default.ensures.ok.1 c.in-Ok-parts_before.next c.in-Ok-parts_before.ensures c.in-Ok.kept.now c.in-Ok.ensures.ok.0))
    (rollback_made c.args.world.now c.args.plan.now c.in-Ok.kept.now c.in-Ok.ensures.ok.0 c.in-Ok.ensures.ok.1 c.requires.sound c.in_default.ensures.ok.0 c.in_default.ensures.ok.1 c.in-Ok-restored.config c.in-Ok-restored.ensures.ok.0 c.in-Ok-restored.ensures.ok.1 g.row.A.Denot caller)

pub returns-in-Ok-parts_before-clause-suits : goal.returns-in-Ok-parts_before-clause-suits
returns-in-Ok-parts_before-clause-suits g c =
    rollback_suits c.args.world.now c.args.plan.now c.in-Ok.kept.now c.in-Ok.ensures.ok.0 c.in-Ok.ensures.ok.1 c.in-Ok-restored.config c.in-Ok-parts_before.next c.in-Ok-parts_before.ensures

pub returns-in-Ok-parts_before-clause-tells : goal.returns-in-Ok-parts_before-clause-tells
returns-in-Ok-parts_before-clause-tells g c = rollback_tells c.args.world.now c.args.plan.now c.in-Ok-restored.config c.in-Ok-parts_before.next c.in-Ok-parts_before.ensures

pub returns-in-Ok-parts_before-clause-sound : goal.returns-in-Ok-parts_before-clause-sound
returns-in-Ok-parts_before-clause-sound g c =
    subst (IsSoundAfter {A = g.row.A.Denot} c.args.world.now (Rollback c.args.plan.now))
    (sym (rolled_world c.args.world.now c.args.plan.now c.in-Ok-restored.config c.in_default.ensures.ok.0 c.in_default.ensures.ok.1 c.in-Ok-parts_before.next c.in-Ok-parts_before.ensures c.in-Ok.kept.now c.in-Ok.ensures.ok.0))
    (rollback_sound c.args.world.now c.args.plan.now c.in-Ok.kept.now c.in-Ok.ensures.ok.0 c.in-Ok.ensures.ok.1 c.requires.sound c.in_default.ensures.ok.0 c.in_default.ensures.ok.1 c.in-Ok-restored.config c.in-Ok-restored.ensures.ok.0 c.in-Ok-restored.ensures.ok.1 g.row.A.Denot)
