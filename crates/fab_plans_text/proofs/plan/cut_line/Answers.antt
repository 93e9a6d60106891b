use Rattle.fab_plans_base.proofs.Cuts.{cut_some, cut_none}
use Rattle.fab_plans_text.proofs.plan.cut_line.Goals as goal

pub returns-clause-some : goal.returns-clause-some
returns-clause-some c = cut_some c.args.text.now c.split_once.result c.split_once.ensures.cases

pub returns-clause-none : goal.returns-clause-none
returns-clause-none c = cut_none c.args.text.now c.split_once.result c.split_once.ensures.cases
