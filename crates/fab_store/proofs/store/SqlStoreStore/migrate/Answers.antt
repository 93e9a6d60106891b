use Rattle.sqlite.specs.Held.{state}
use Rattle.fab_store_sql.specs.Trees.{tables_of}
use Rattle.fab_store.proofs.store.SqlStoreStore.migrate.Goals as goal

pub returns-in-Err-clause-fault : goal.returns-in-Err-clause-fault
returns-in-Err-clause-fault g c clean known = c.unmigrated-fault.ensures (tables_of (state g.S.Store c.args.self.now.conn).now.trees) (c.in-Err.ensures.fault clean known)
