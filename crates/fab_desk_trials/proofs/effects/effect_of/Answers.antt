use Rattle.std.proofs.Common.{IfOk, IfErr, refl, sym, ap, subst}
use Rattle.fab_desk_base.specs.Commands.{tried}
use Rattle.fab_desk_base.specs.Trying.{IsTryFault}
use Rattle.fab_desk_base.specs.declared.command.Command.TheVariants as command
use Rattle.fab_desk_trials.specs.Trials.{IsTried}
use Rattle.fab_desk_trials.proofs.HolderEffects.{import_one, put_one, dropped_one}
use Rattle.fab_desk_trials.proofs.VolumeEffects.{put_volume, volume_dropped}
use Rattle.fab_desk_trials.proofs.TriedEffects.{no_policy, there, staging_ok, stock_ok, stock_err, plan_ok, plan_err, turn_tells}
use Rattle.fab_world.proofs.WholeWorld.{ok_as}
use Rattle.fab_desk_trials.proofs.effects.effect_of.Goals as goal

pub holder_dropped-requires-clause-there : goal.holder_dropped-requires-clause-there
holder_dropped-requires-clause-there g c = there c.args.world.now c.args.command.now (command.DropHolder c.in-DropHolder.kind c.in-DropHolder.name) c.in-DropHolder.is c.requires.there no_policy 0

pub volume_dropped-requires-clause-there : goal.volume_dropped-requires-clause-there
volume_dropped-requires-clause-there g c = there c.args.world.now c.args.command.now (command.DropVolume c.in-DropVolume.name) c.in-DropVolume.is c.requires.there no_policy 0

pub withdrawn-requires : goal.withdrawn-requires
withdrawn-requires g c = record { there = there c.args.world.now c.args.command.now (command.Withdraw c.in-Withdraw.plan) c.in-Withdraw.is c.requires.there no_policy 0 }

pub approved-requires : goal.approved-requires
approved-requires g c = record { there = there c.args.world.now c.args.command.now (command.Approve c.in-Approve.plan) c.in-Approve.is c.requires.there no_policy 0 }

pub activated-requires-clause-there : goal.activated-requires-clause-there
activated-requires-clause-there g c = there c.args.world.now c.args.command.now (command.DryRun c.in-DryRun.plan) c.in-DryRun.is c.requires.there no_policy 0

pub activated-requires-in-Activate-clause-there : goal.activated-requires-in-Activate-clause-there
activated-requires-in-Activate-clause-there g c = there c.args.world.now c.args.command.now (command.Activate c.in-Activate.plan) c.in-Activate.is c.requires.there no_policy 0

pub rolled_back-requires-clause-there : goal.rolled_back-requires-clause-there
rolled_back-requires-clause-there g c = there c.args.world.now c.args.command.now (command.Rollback c.in-Rollback.plan) c.in-Rollback.is c.requires.there no_policy 0

pub returns-in-Import-clause-ok : goal.returns-in-Import-clause-ok
returns-in-Import-clause-ok g c = stock_ok c.args.world.now c.args.caller.now c.args.command.now (command.Import c.in-Import.fabric c.in-Import.rows) (ap tried (sym c.in-Import.is)) c.imported.result c.of_import.result refl (c.imported.ensures.ok c.args.caller.now) c.imported.ensures.sound c.of_import.ensures.ok

pub returns-in-Import-clause-err : goal.returns-in-Import-clause-err
returns-in-Import-clause-err g c = stock_err c.args.world.now c.args.caller.now c.args.command.now (command.Import c.in-Import.fabric c.in-Import.rows) (ap tried (sym c.in-Import.is)) c.imported.result c.of_import.result (c.imported.ensures.err c.args.caller.now) c.of_import.ensures.err

pub returns-in-PutHolder-clause-ok : goal.returns-in-PutHolder-clause-ok
returns-in-PutHolder-clause-ok g c = stock_ok c.args.world.now c.args.caller.now c.args.command.now (command.PutHolder c.in-PutHolder.kind c.in-PutHolder.name c.in-PutHolder.tenant c.in-PutHolder.ports) (ap tried (sym c.in-PutHolder.is)) c.holder_put.result c.of_holder.result refl (c.holder_put.ensures.ok c.args.caller.now) c.holder_put.ensures.sound c.of_holder.ensures.ok

pub returns-in-PutHolder-clause-err : goal.returns-in-PutHolder-clause-err
returns-in-PutHolder-clause-err g c = stock_err c.args.world.now c.args.caller.now c.args.command.now (command.PutHolder c.in-PutHolder.kind c.in-PutHolder.name c.in-PutHolder.tenant c.in-PutHolder.ports) (ap tried (sym c.in-PutHolder.is)) c.holder_put.result c.of_holder.result (c.holder_put.ensures.err c.args.caller.now) c.of_holder.ensures.err

pub returns-in-PutVolume-clause-ok : goal.returns-in-PutVolume-clause-ok
returns-in-PutVolume-clause-ok g c = stock_ok c.args.world.now c.args.caller.now c.args.command.now (command.PutVolume c.in-PutVolume.name c.in-PutVolume.volume) (ap tried (sym c.in-PutVolume.is)) c.volume_put.result c.of_volume.result refl (c.volume_put.ensures.ok c.args.caller.now) c.volume_put.ensures.sound c.of_volume.ensures.ok

pub returns-in-PutVolume-clause-err : goal.returns-in-PutVolume-clause-err
returns-in-PutVolume-clause-err g c = stock_err c.args.world.now c.args.caller.now c.args.command.now (command.PutVolume c.in-PutVolume.name c.in-PutVolume.volume) (ap tried (sym c.in-PutVolume.is)) c.volume_put.result c.of_volume.result (c.volume_put.ensures.err c.args.caller.now) c.of_volume.ensures.err

pub returns-in-DropHolder-clause-ok : goal.returns-in-DropHolder-clause-ok
returns-in-DropHolder-clause-ok g c = stock_ok c.args.world.now c.args.caller.now c.args.command.now (command.DropHolder c.in-DropHolder.kind c.in-DropHolder.name) (ap tried (sym c.in-DropHolder.is)) c.holder_dropped.result c.of_holder-in-DropHolder.result refl (c.holder_dropped.ensures.ok c.args.caller.now) c.holder_dropped.ensures.sound c.of_holder-in-DropHolder.ensures.ok

pub returns-in-DropHolder-clause-err : goal.returns-in-DropHolder-clause-err
returns-in-DropHolder-clause-err g c = stock_err c.args.world.now c.args.caller.now c.args.command.now (command.DropHolder c.in-DropHolder.kind c.in-DropHolder.name) (ap tried (sym c.in-DropHolder.is)) c.holder_dropped.result c.of_holder-in-DropHolder.result (c.holder_dropped.ensures.err c.args.caller.now) c.of_holder-in-DropHolder.ensures.err

pub returns-in-DropVolume-clause-ok : goal.returns-in-DropVolume-clause-ok
returns-in-DropVolume-clause-ok g c = stock_ok c.args.world.now c.args.caller.now c.args.command.now (command.DropVolume c.in-DropVolume.name) (ap tried (sym c.in-DropVolume.is)) c.volume_dropped.result c.of_volume-in-DropVolume.result refl (c.volume_dropped.ensures.ok c.args.caller.now) c.volume_dropped.ensures.sound c.of_volume-in-DropVolume.ensures.ok

pub returns-in-DropVolume-clause-err : goal.returns-in-DropVolume-clause-err
returns-in-DropVolume-clause-err g c = stock_err c.args.world.now c.args.caller.now c.args.command.now (command.DropVolume c.in-DropVolume.name) (ap tried (sym c.in-DropVolume.is)) c.volume_dropped.result c.of_volume-in-DropVolume.result (c.volume_dropped.ensures.err c.args.caller.now) c.of_volume-in-DropVolume.ensures.err

pub returns-in-Stage-clause-ok : goal.returns-in-Stage-clause-ok
returns-in-Stage-clause-ok g c = subst (λ x. IfOk x (IsTried c.args.world.now c.args.caller.now c.args.command.now)) (sym c.of_staging.ensures) (staging_ok c.args.world.now c.args.caller.now c.in-Stage.plan c.in-Stage.steps c.args.command.now c.in-Stage.is c.is_staged_already.result c.is_staged_already.ensures.same c.is_staged_already.ensures.new c.is_staged_already.ensures.sound)

pub returns-in-Withdraw-clause-ok : goal.returns-in-Withdraw-clause-ok
returns-in-Withdraw-clause-ok g c = subst (λ x. IfOk x (IsTried c.args.world.now c.args.caller.now c.args.command.now)) (sym c.of_plan.ensures) (plan_ok c.args.world.now c.args.caller.now c.args.command.now (command.Withdraw c.in-Withdraw.plan) (ap tried (sym c.in-Withdraw.is)) c.withdrawn.result (c.withdrawn.ensures.ok c.args.caller.now) (ok_as c.withdrawn.result (λ n s _. s) c.withdrawn.ensures.suits) (ok_as c.withdrawn.result (turn_tells c.args.world.now c.in-Withdraw.plan) c.withdrawn.ensures.kind) c.withdrawn.ensures.sound)

pub returns-in-Withdraw-clause-err : goal.returns-in-Withdraw-clause-err
returns-in-Withdraw-clause-err g c = subst (λ x. IfErr x (IsTryFault c.args.world.now c.args.caller.now (tried c.args.command.now))) (sym c.of_plan.ensures) (plan_err c.args.world.now c.args.caller.now c.args.command.now (command.Withdraw c.in-Withdraw.plan) (ap tried (sym c.in-Withdraw.is)) c.withdrawn.result (c.withdrawn.ensures.err c.args.caller.now))

pub returns-in-Approve-clause-ok : goal.returns-in-Approve-clause-ok
returns-in-Approve-clause-ok g c = subst (λ x. IfOk x (IsTried c.args.world.now c.args.caller.now c.args.command.now)) (sym c.of_plan-in-Approve.ensures) (plan_ok c.args.world.now c.args.caller.now c.args.command.now (command.Approve c.in-Approve.plan) (ap tried (sym c.in-Approve.is)) c.approved.result c.approved.ensures.ok (ok_as c.approved.result (λ n s _. s) c.approved.ensures.suits) (ok_as c.approved.result (turn_tells c.args.world.now c.in-Approve.plan) c.approved.ensures.kind) c.approved.ensures.sound)

pub returns-in-Approve-clause-err : goal.returns-in-Approve-clause-err
returns-in-Approve-clause-err g c = subst (λ x. IfErr x (IsTryFault c.args.world.now c.args.caller.now (tried c.args.command.now))) (sym c.of_plan-in-Approve.ensures) (plan_err c.args.world.now c.args.caller.now c.args.command.now (command.Approve c.in-Approve.plan) (ap tried (sym c.in-Approve.is)) c.approved.result c.approved.ensures.err)

pub returns-in-DryRun-clause-ok : goal.returns-in-DryRun-clause-ok
returns-in-DryRun-clause-ok g c = subst (λ x. IfOk x (IsTried c.args.world.now c.args.caller.now c.args.command.now)) (sym c.of_plan-in-DryRun.ensures) (plan_ok c.args.world.now c.args.caller.now c.args.command.now (command.Activate c.in-DryRun.plan) (ap tried (sym c.in-DryRun.is)) c.activated.result (c.activated.ensures.ok c.args.caller.now) (ok_as c.activated.result (λ n s may. s (may refl)) c.activated.ensures.suits) c.activated.ensures.tells c.activated.ensures.sound)

pub returns-in-DryRun-clause-err : goal.returns-in-DryRun-clause-err
returns-in-DryRun-clause-err g c = subst (λ x. IfErr x (IsTryFault c.args.world.now c.args.caller.now (tried c.args.command.now))) (sym c.of_plan-in-DryRun.ensures) (plan_err c.args.world.now c.args.caller.now c.args.command.now (command.Activate c.in-DryRun.plan) (ap tried (sym c.in-DryRun.is)) c.activated.result (c.activated.ensures.err c.args.caller.now))

pub returns-in-Activate-clause-ok : goal.returns-in-Activate-clause-ok
returns-in-Activate-clause-ok g c = subst (λ x. IfOk x (IsTried c.args.world.now c.args.caller.now c.args.command.now)) (sym c.of_plan-in-Activate.ensures) (plan_ok c.args.world.now c.args.caller.now c.args.command.now (command.Activate c.in-Activate.plan) (ap tried (sym c.in-Activate.is)) c.activated-in-Activate.result (c.activated-in-Activate.ensures.ok c.args.caller.now) (ok_as c.activated-in-Activate.result (λ n s may. s (may refl)) c.activated-in-Activate.ensures.suits) c.activated-in-Activate.ensures.tells c.activated-in-Activate.ensures.sound)

pub returns-in-Activate-clause-err : goal.returns-in-Activate-clause-err
returns-in-Activate-clause-err g c = subst (λ x. IfErr x (IsTryFault c.args.world.now c.args.caller.now (tried c.args.command.now))) (sym c.of_plan-in-Activate.ensures) (plan_err c.args.world.now c.args.caller.now c.args.command.now (command.Activate c.in-Activate.plan) (ap tried (sym c.in-Activate.is)) c.activated-in-Activate.result (c.activated-in-Activate.ensures.err c.args.caller.now))

pub returns-in-Rollback-clause-ok : goal.returns-in-Rollback-clause-ok
returns-in-Rollback-clause-ok g c = subst (λ x. IfOk x (IsTried c.args.world.now c.args.caller.now c.args.command.now)) (sym c.of_plan-in-Rollback.ensures) (plan_ok c.args.world.now c.args.caller.now c.args.command.now (command.Rollback c.in-Rollback.plan) (ap tried (sym c.in-Rollback.is)) c.rolled_back.result (c.rolled_back.ensures.ok c.args.caller.now) (ok_as c.rolled_back.result (λ n s may. s (may refl)) c.rolled_back.ensures.suits) c.rolled_back.ensures.tells c.rolled_back.ensures.sound)

pub returns-in-Rollback-clause-err : goal.returns-in-Rollback-clause-err
returns-in-Rollback-clause-err g c = subst (λ x. IfErr x (IsTryFault c.args.world.now c.args.caller.now (tried c.args.command.now))) (sym c.of_plan-in-Rollback.ensures) (plan_err c.args.world.now c.args.caller.now c.args.command.now (command.Rollback c.in-Rollback.plan) (ap tried (sym c.in-Rollback.is)) c.rolled_back.result (c.rolled_back.ensures.err c.args.caller.now))

pub of_volume-requires : goal.of_volume-requires
of_volume-requires g c = ok_as c.volume_put.result (put_volume c.args.world.now c.args.caller.now c.in-PutVolume.name c.in-PutVolume.volume) (c.volume_put.ensures.ok c.args.caller.now)

pub of_volume-requires-in-DropVolume : goal.of_volume-requires-in-DropVolume
of_volume-requires-in-DropVolume g c = ok_as c.volume_dropped.result (volume_dropped c.args.world.now c.args.caller.now c.in-DropVolume.name) (c.volume_dropped.ensures.ok c.args.caller.now)

pub of_import-requires : goal.of_import-requires
of_import-requires g c = ok_as c.imported.result (import_one c.args.world.now c.args.caller.now c.in-Import.fabric c.in-Import.rows) (c.imported.ensures.ok c.args.caller.now)

pub of_holder-requires : goal.of_holder-requires
of_holder-requires g c = ok_as c.holder_put.result (put_one c.args.world.now c.args.caller.now c.in-PutHolder.kind c.in-PutHolder.name c.in-PutHolder.tenant c.in-PutHolder.ports) (c.holder_put.ensures.ok c.args.caller.now)

pub of_holder-requires-in-DropHolder : goal.of_holder-requires-in-DropHolder
of_holder-requires-in-DropHolder g c = ok_as c.holder_dropped.result (dropped_one c.args.world.now c.args.caller.now c.in-DropHolder.kind c.in-DropHolder.name) (c.holder_dropped.ensures.ok c.args.caller.now)
