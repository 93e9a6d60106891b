use Rattle.fab_store_columns.proofs.UniquePlan.{one_plan, one_plan_line}
use Rattle.fab_store_columns.proofs.laws.plans.Goals as goal

pub returns-clause-row : goal.returns-clause-row
returns-clause-row c = one_plan

pub returns-clause-line : goal.returns-clause-line
returns-clause-line c = one_plan_line
