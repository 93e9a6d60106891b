use Rattle.std.proofs.Common.{[]}
use Rattle.sqlite.specs.Held.{state}
use Rattle.fab_store_sql.proofs.Commits.{held_err, not_run}
use Rattle.fab_store.proofs.changes.check_open.Goals as goal

pub returns-in_err-_statement-clause-failed : goal.returns-in_err-_statement-clause-failed
returns-in_err-_statement-clause-failed g c clean =
    held_err c.from_residual.result (not_run (state g.S.Store c.args.conn.now) (state g.S.Store c.prepare.new.self) _ [] _ (c.in_err-_statement.ensures.err clean []))
