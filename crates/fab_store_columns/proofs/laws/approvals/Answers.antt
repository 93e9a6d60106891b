use Rattle.fab_store_columns.proofs.UniqueConfig.{one_approval, one_approval_line}
use Rattle.fab_store_columns.proofs.laws.approvals.Goals as goal

pub returns-clause-row : goal.returns-clause-row
returns-clause-row c = one_approval

pub returns-clause-line : goal.returns-clause-line
returns-clause-line c = one_approval_line
