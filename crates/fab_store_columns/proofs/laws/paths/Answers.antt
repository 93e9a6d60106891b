use Rattle.fab_store_columns.proofs.UniqueConfig.{one_path, one_path_line}
use Rattle.fab_store_columns.proofs.laws.paths.Goals as goal

pub returns-clause-row : goal.returns-clause-row
returns-clause-row c = one_path

pub returns-clause-line : goal.returns-clause-line
returns-clause-line c = one_path_line
