use Rattle.sqlite.specs.Held.{state}
use Rattle.fab_store_sql.specs.NewDesk.{IsNewDesk}
use Rattle.fab_store.proofs.Left.{left_after}
use Rattle.fab_store.proofs.store.SqlStore.init.Goals as goal

pub returns-in-Ok-clause-stop : goal.returns-in-Ok-clause-stop
returns-in-Ok-clause-stop g c = left_after (state g.S.Store c.args.self.now.conn) (state g.S.Store c.init.new.conn) IsNewDesk c.init.ensures.crash

pub returns-in-Err-clause-stop : goal.returns-in-Err-clause-stop
returns-in-Err-clause-stop g c = left_after (state g.S.Store c.args.self.now.conn) (state g.S.Store c.init.new.conn) IsNewDesk c.init.ensures.crash
