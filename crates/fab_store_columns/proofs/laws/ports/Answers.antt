use Rattle.fab_store_columns.proofs.Unique.{one_port, one_port_line}
use Rattle.fab_store_columns.proofs.laws.ports.Goals as goal

pub returns-clause-row : goal.returns-clause-row
returns-clause-row c = one_port

pub returns-clause-line : goal.returns-clause-line
returns-clause-line c = one_port_line
