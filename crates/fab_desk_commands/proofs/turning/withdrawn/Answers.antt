use Rattle.fab_desk_commands.proofs.PlanChecks.{withdraw_refused}
use Rattle.fab_desk_commands.proofs.PlanTurns.{withdraw_made, withdraw_sound}
use Rattle.fab_desk_commands.proofs.turning.withdrawn.Goals as goal

pub returns-in-Ok-clause-ok : goal.returns-in-Ok-clause-ok
returns-in-Ok-clause-ok g c = λ caller. withdraw_made c.args.world.now c.args.plan.now c.in-Ok._staged.now c.in-Ok.ensures.ok.0 g.row.A.Denot c.in-Ok.ensures.ok.1 caller

pub returns-in-Ok-clause-sound : goal.returns-in-Ok-clause-sound
returns-in-Ok-clause-sound g c = withdraw_sound c.args.world.now c.args.plan.now c.in-Ok._staged.now c.in-Ok.ensures.ok.0 g.row.A.Denot c.in-Ok.ensures.ok.1

pub returns-in-Err-clause-err : goal.returns-in-Err-clause-err
returns-in-Err-clause-err g c = λ caller. withdraw_refused g.row.A.Denot c.args.world.now caller c.args.plan.now c.in-Err.fault c.in-Err.ensures.err
