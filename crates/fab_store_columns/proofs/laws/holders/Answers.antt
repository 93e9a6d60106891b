use Rattle.fab_store_columns.proofs.Unique.{one_holder, one_holder_line}
use Rattle.fab_store_columns.proofs.laws.holders.Goals as goal

pub returns-clause-row : goal.returns-clause-row
returns-clause-row c = one_holder

pub returns-clause-line : goal.returns-clause-line
returns-clause-line c = one_holder_line
