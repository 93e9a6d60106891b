use Rattle.std.proofs.Common.{◌∙◌, ap, map, subst}
use Rattle.std.proofs.lemmas.Result.{IfOk-weaker}
use Rattle.sqlite.specs.Held.{state}
use Rattle.fab_store_load.specs.declared.fault.Table.TheVariants as table
use Rattle.fab_store_tables.specs.Columns.{meta_row}
use Rattle.fab_store_sql.specs.Trees.{show_of}
use Rattle.fab_store_sql.specs.Reading.{IsAny, DoRise}
use Rattle.fab_store_sql.proofs.Showings.{lines_exact, rise_keyed}
use Rattle.fab_store_sql.proofs.Commits.{held_ok}
use Rattle.fab_store_migration.proofs.settings.settings_in.Goals as goal

pub returns-clause-lines : goal.returns-clause-lines
returns-clause-lines g c clean known =
    let trees = (state g.S.Store c.args.tx.now.conn.now).now.trees in
    let rows = c.in_ok-rows.rows.items in
    let shown = c.in_ok-rows.ensures.shown clean known in
    IfOk-weaker c.lines_from.result _ _ (λ lines same. lines_exact meta_row table.Meta IsAny trees rows lines.items shown (same ∙ ap (map (show_of table.Meta)) c.as_slice-2.ensures.value)) c.lines_from.ensures

pub returns-clause-keyed : goal.returns-clause-keyed
returns-clause-keyed g c clean known =
    let trees = (state g.S.Store c.args.tx.now.conn.now).now.trees in
    let rows = c.in_ok-rows.rows.items in
    let up = subst DoRise c.as_slice.ensures.value (c.rise.ensures c.if-not-rise.false) in
    held_ok c.lines_from.result (rise_keyed table.Meta trees rows (c.in_ok-rows.ensures.shown clean known) up)
