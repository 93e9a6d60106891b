use Rattle.std.proofs.Common.{sym, ◌∙◌}
use Rattle.fab_desk_trials.specs.Named.{plan_named}
use Rattle.fab_desk_trials.proofs.ApprovalsListed.{listed_under}
use Rattle.fab_desk_trials.proofs.approvals.approvals_of.Goals as goal

pub returns : goal.returns
returns g c = listed_under c.args.world.now (plan_named c.args.command.now) c.in-Some.name c.in_ok-list.list.items (sym c.named_plan.ensures ∙ c.in-Some.is) c.in_ok-list.ensures
