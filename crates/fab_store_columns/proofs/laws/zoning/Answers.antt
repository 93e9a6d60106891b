use Rattle.fab_store_columns.proofs.UniqueConfig.{one_zoning, one_zoning_line}
use Rattle.fab_store_columns.proofs.laws.zoning.Goals as goal

pub returns-clause-row : goal.returns-clause-row
returns-clause-row c = one_zoning

pub returns-clause-line : goal.returns-clause-line
returns-clause-line c = one_zoning_line
