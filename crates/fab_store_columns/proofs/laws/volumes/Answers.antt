use Rattle.fab_store_columns.proofs.Unique.{one_volume, one_volume_line}
use Rattle.fab_store_columns.proofs.laws.volumes.Goals as goal

pub returns-clause-row : goal.returns-clause-row
returns-clause-row c = one_volume

pub returns-clause-line : goal.returns-clause-line
returns-clause-line c = one_volume_line
