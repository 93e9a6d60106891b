use Rattle.std.proofs.Common.{◌+◌, sym, ap, subst}
use Rattle.fab_world.specs.Worlds.{WorldRows}
use Rattle.fab_desk_machine.specs.Reports.{Tells}
use Rattle.fab_desk_machine.specs.declared.report.Report.TheVariants.{Approved, Reconfigured}
use Rattle.fab_desk_machine.proofs.Reported.{approval_told, activation_told, rollback_told}
use Rattle.fab_desk_machine.proofs.report.report_of.Goals as goal

pub returns-in-Approve : goal.returns-in-Approve
returns-in-Approve g c =
    subst (λ k. Tells c.args.world.now c.args.caller.now k (Approved c.in-Approve.plan c.approvals_after.result c.world.inside.revision)) (sym c.in-Approve.is)
    (approval_told c.args.world.now c.args.caller.now c.in-Approve.plan c.approvals_after.result c.world.inside.revision (ap (λ (w : WorldRows). w.revision) c.world.view_is) c.approvals_after.ensures)

pub returns-in-Activate : goal.returns-in-Activate
returns-in-Activate g c =
    subst (λ k. Tells c.args.world.now c.args.caller.now k (Reconfigured c.in-Activate.plan (c.world.inside.revision + 1))) (sym c.in-Activate.is)
    (activation_told c.args.world.now c.args.caller.now c.in-Activate.plan c.world.inside.revision (ap (λ (w : WorldRows). w.revision) c.world.view_is))

pub returns-in-Rollback : goal.returns-in-Rollback
returns-in-Rollback g c =
    subst (λ k. Tells c.args.world.now c.args.caller.now k (Reconfigured c.in-Rollback.plan (c.world.inside.revision + 1))) (sym c.in-Rollback.is)
    (rollback_told c.args.world.now c.args.caller.now c.in-Rollback.plan c.world.inside.revision (ap (λ (w : WorldRows). w.revision) c.world.view_is))
