use Rattle.fab_store_columns.proofs.Unique.{one_address, one_address_line}
use Rattle.fab_store_columns.proofs.laws.addresses.Goals as goal

pub returns-clause-row : goal.returns-clause-row
returns-clause-row c = one_address

pub returns-clause-line : goal.returns-clause-line
returns-clause-line c = one_address_line
