use Rattle.std.proofs.Common.{subst}
use Rattle.sqlite.specs.Held.{state}
use Rattle.fab_store_load.specs.declared.fault.Table.TheVariants as table
use Rattle.fab_reach_base.specs.Orders.{IsListOf}
use Rattle.fab_store_tables.specs.Paths.{IsPathOf}
use Rattle.fab_store_sql.specs.Reading.{AreLinesOf, IsOfHost}
use Rattle.fab_store_sql.specs.Trees.{tables_of}
use Rattle.fab_store_tables.specs.Columns.{path_row}
use Rattle.fab_store.proofs.PathsTold.{paths_told}
use Rattle.fab_store.proofs.paths.find_paths.Goals as goal

pub returns-in-Ok-Some-clause-told : goal.returns-in-Ok-Some-clause-told
returns-in-Ok-Some-clause-told g c clean =
    let tables = tables_of (state g.S.Store c.args.conn.now).now.trees in
    let are = subst (λ host. AreLinesOf path_row (IsOfHost host) (tables table.Paths) c.in-Ok.lines.items) c.as_str.ensures.text (c.in-Ok.ensures.lines clean) in
    let told = subst (λ lines. IsListOf (IsPathOf lines) c.in-Ok-Some.paths.items) c.as_slice.ensures.value (rw c.in-Ok-Some.field-0-is at c.in-Ok-Some.ensures) in
    let same = (c.in-Ok.ensures.same clean).0 in
    (paths_told tables c.args.host.now c.in-Ok.lines.items are c.in-Ok-Some.paths.items told, record { was_open = same.was_open; is_open = same.is_open; now = same.now_is; committed = same.committed_is })
