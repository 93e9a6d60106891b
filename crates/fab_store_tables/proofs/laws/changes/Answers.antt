use Rattle.fab_store_tables.proofs.Unique.{one_undo, one_undo_line}
use Rattle.fab_store_tables.proofs.laws.changes.Goals as goal

pub returns-clause-row : goal.returns-clause-row
returns-clause-row c = one_undo

pub returns-clause-line : goal.returns-clause-line
returns-clause-line c = one_undo_line
