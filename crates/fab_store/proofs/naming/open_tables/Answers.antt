use Rattle.fab_store_base.specs.Opened as opened
use Rattle.fab_store.proofs.naming.open_tables.Goals as goal

pub returns-clause-fault : goal.returns-clause-fault
returns-clause-fault g c = c.told_first.ensures (opened.tables_of c.args.lines) c.in-Err.ensures.fault
