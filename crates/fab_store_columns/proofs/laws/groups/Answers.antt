use Rattle.fab_store_columns.proofs.UniqueConfig.{one_group, one_group_line}
use Rattle.fab_store_columns.proofs.laws.groups.Goals as goal

pub returns-clause-row : goal.returns-clause-row
returns-clause-row c = one_group

pub returns-clause-line : goal.returns-clause-line
returns-clause-line c = one_group_line
