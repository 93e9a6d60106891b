use Rattle.fab_store_columns.proofs.UniqueConfig.{one_meta, one_meta_line}
use Rattle.fab_store_columns.proofs.laws.settings.Goals as goal

pub returns-clause-row : goal.returns-clause-row
returns-clause-row c = one_meta

pub returns-clause-line : goal.returns-clause-line
returns-clause-line c = one_meta_line
