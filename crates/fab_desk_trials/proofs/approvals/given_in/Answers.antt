use Rattle.fab_desk_trials.proofs.ApprovalsListed.{given_listed}
use Rattle.fab_desk_trials.proofs.approvals.given_in.Goals as goal

pub returns : goal.returns
returns g c = given_listed c.args.given.now c.in_ok-list.list.items c.len-count.ensures.ordered c.in_ok-list.ensures
