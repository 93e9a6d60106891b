use Rattle.fab_policy_text.proofs.Unique.{policy_one}
use Rattle.fab_policy_text.proofs.laws.one_policy.Goals as goal

pub returns : goal.returns
returns c p q a b = policy_one c.args.text.now p q a b
