use Rattle.fab_files_policy.proofs.Holding.{told_holds}
use Rattle.fab_files_policy.proofs.laws.told_rules_hold.Goals as goal

pub returns : goal.returns
returns c = told_holds c.args.policy.now c.args.act.now c.args.rule.now c.args.found.now
