use Rattle.toml.specs.View.{table_view}
use Rattle.fab_policy_text.proofs.Refused.{text}
use Rattle.fab_policy_text.proofs.reading.PolicyReadPolicy.read.Goals as goal

pub returns-in-Ok-clause-err : goal.returns-in-Ok-clause-err
returns-in-Ok-clause-err c m p h = text c.args.text.now (table_view c.in-Ok.table) c.in-Err-policy_of.e p c.in-Ok.ensures.ok (c.in-Err-policy_of.ensures.fault m) h
