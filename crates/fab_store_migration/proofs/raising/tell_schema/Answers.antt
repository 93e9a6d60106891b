use Rattle.std.proofs.Common.{◌∷◌, [], Ok, codes, subst}
use Rattle.sqlite.specs.declared.types.Value.TheVariants.{Text}
use Rattle.sqlite.specs.Held.{state}
use Rattle.sqlite.specs.State.{ExecutesInside}
use Rattle.fab_store_load.specs.declared.fault.Table.TheVariants as table
use Rattle.fab_store_sql.specs.Cells.{value_of}
use Rattle.fab_store_sql.specs.Statements.{insert_text}
use Rattle.fab_store_migration.proofs.Raises.{tells}
use Rattle.fab_store_migration.proofs.raising.tell_schema.Goals as goal

pub returns-clause-done : goal.returns-clause-done
returns-clause-done g c clean was =
    let old = state g.S.Store c.args.tx.now.conn.now in
    let new = state g.S.Store c.execute.new.self.conn.now in
    let count = c.in_ok-_count._count in
    let ran = c.in_ok-_count.ensures.runs clean was.inside in
    let first = subst (λ v. ExecutesInside 0 (insert_text table.Meta) (v ∷ value_of c.text-2.result ∷ []) old new (Ok count)) c.text.ensures (subst (λ text. ExecutesInside 0 text (value_of c.text.result ∷ value_of c.text-2.result ∷ []) old new (Ok count)) c.insert_text.ensures ran) in
    tells old new count was (subst (λ v. ExecutesInside 0 (insert_text table.Meta) (Text (codes "schema") ∷ v ∷ []) old new (Ok count)) c.text-2.ensures first)
