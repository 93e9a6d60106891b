use Rattle.fab_policy.proofs.OneVerdict.{verdict_one}
use Rattle.fab_policy.proofs.laws.one_verdict.Goals as goal

pub returns : goal.returns
returns c v w d e = verdict_one c.args.policy.now c.args.act.now v w d e
