use Rattle.std.proofs.Common.{◌∷◌, [], Ok, subst}
use Rattle.sqlite.specs.Held.{state}
use Rattle.sqlite.specs.State.{ExecutesInside}
use Rattle.fab_store_load.specs.declared.fault.Table.TheVariants as table
use Rattle.fab_store_sql.specs.Cells.{value_of}
use Rattle.fab_store_sql.specs.Statements.{delete_text}
use Rattle.fab_store_migration.proofs.Raises.{forgets}
use Rattle.fab_store_migration.proofs.raising.forget_schema.Goals as goal

pub returns-clause-done : goal.returns-clause-done
returns-clause-done g c clean was =
    let old = state g.S.Store c.args.tx.now.conn.now in
    let new = state g.S.Store c.execute.new.self.conn.now in
    let count = c.in_ok-_count._count in
    let ran = c.in_ok-_count.ensures.runs clean was.inside in
    forgets old new count was (subst (λ v. ExecutesInside 0 (delete_text table.Meta) (v ∷ []) old new (Ok count)) c.text.ensures (subst (λ text. ExecutesInside 0 text (value_of c.text.result ∷ []) old new (Ok count)) c.delete_text.ensures ran))
