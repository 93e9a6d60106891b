use Rattle.fab_store_columns.proofs.UniqueConfig.{one_active, one_active_line}
use Rattle.fab_store_columns.proofs.laws.active.Goals as goal

pub returns-clause-row : goal.returns-clause-row
returns-clause-row c = one_active

pub returns-clause-line : goal.returns-clause-line
returns-clause-line c = one_active_line
