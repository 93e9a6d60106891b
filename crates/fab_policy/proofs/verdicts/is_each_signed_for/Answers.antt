use Rattle.std.proofs.Common.{◌∙◌}
use Rattle.fab_policy.proofs.Counted.{signed}
use Rattle.fab_policy.proofs.verdicts.is_each_signed_for.Goals as goal

pub returns-clause-each : goal.returns-clause-each
returns-clause-each c = c.are_signed_for-each.ensures ∙ signed c.args.policy.now c.args.act.now c.args.findings.now c.args.quorum.now.approver c.args.quorum.now.fresh c.requires.found

pub returns-clause-known : goal.returns-clause-known
returns-clause-known c = c.are_signed_for-each.ensures ∙ signed c.args.policy.now c.args.act.now c.args.findings.now c.args.quorum.now.approver c.args.quorum.now.fresh c.requires.found
