use Rattle.fab_store_columns.proofs.UniqueConfig.{one_part, one_part_line}
use Rattle.fab_store_columns.proofs.laws.parts.Goals as goal

pub returns-clause-row : goal.returns-clause-row
returns-clause-row c = one_part

pub returns-clause-line : goal.returns-clause-line
returns-clause-line c = one_part_line
