use Rattle.std.proofs.Common.{sym, subst}
use Rattle.fab_desk_base.specs.declared.command.Command.TheVariants.{Activate}
use Rattle.fab_desk_base.specs.Trying.{IsMade}
use Rattle.fab_world.specs.Plans.{change_in}
use Rattle.fab_desk_commands.specs.Trials.{IsSoundAfter}
use Rattle.fab_desk_commands.proofs.Activations.{activated_world, activation_made, activation_sound, outcome_refused}
use Rattle.fab_desk_commands.proofs.PlanChecks.{activate_refused}
use Rattle.fab_desk_commands.proofs.activation.activated.Goals as goal

pub returns-in-Err-clause-err : goal.returns-in-Err-clause-err
returns-in-Err-clause-err g c = λ caller. activate_refused g.row.A.Denot c.args.world.now caller c.args.plan.now c.in-Err.fault c.in-Err.ensures.err

pub returns-in-Err-outcome-clause-err : goal.returns-in-Err-outcome-clause-err
returns-in-Err-outcome-clause-err g c = λ caller.
    outcome_refused g.row.A.Denot c.args.world.now caller c.args.plan.now c.in-Ok.kept.now c.in-Ok.ensures.ok.0 c.in-Ok.ensures.ok.1 c.in-Err-outcome.fault c.in-Err-outcome.ensures.err

pub returns-in-Ok-outcome-clause-ok : goal.returns-in-Ok-outcome-clause-ok
returns-in-Ok-outcome-clause-ok g c = λ caller.
    let w = c.args.world.now in
    let plan = c.args.plan.now in
    let is = c.in-Ok.ensures.ok.0 in
    let made = c.in-Ok-outcome.ensures in
    subst (IsMade {A = g.row.A.Denot} w caller (Activate plan)) (sym (activated_world w plan c.in-Ok.kept.now is c.in-Ok-outcome.config c.in-Ok-outcome.change))
    (activation_made w plan c.in-Ok.kept.now is c.in-Ok.ensures.ok.1 c.in-Ok-outcome.config (change_in c.in-Ok-outcome.change) g.row.A.Denot caller made.ok made.differs)

pub returns-in-Ok-outcome-clause-suits : goal.returns-in-Ok-outcome-clause-suits
returns-in-Ok-outcome-clause-suits g c = λ few. ((c.in-Ok.kept.now, c.in-Ok.ensures.ok.0, c.in-Ok.ensures.ok.1), few, c.in-Ok-outcome.ensures.differs)

pub returns-in-Ok-outcome-clause-sound : goal.returns-in-Ok-outcome-clause-sound
returns-in-Ok-outcome-clause-sound g c =
    let w = c.args.world.now in
    let plan = c.args.plan.now in
    let is = c.in-Ok.ensures.ok.0 in
    let made = c.in-Ok-outcome.ensures in
    subst (IsSoundAfter {A = g.row.A.Denot} w (Activate plan)) (sym (activated_world w plan c.in-Ok.kept.now is c.in-Ok-outcome.config c.in-Ok-outcome.change))
    (activation_sound w plan c.in-Ok.kept.now is c.in-Ok.ensures.ok.1 c.in-Ok-outcome.config (change_in c.in-Ok-outcome.change) g.row.A.Denot made.ok made.differs made.sound)
