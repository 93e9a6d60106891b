use Rattle.std.proofs.Common.{◌∙◌, ap}
use Rattle.sqlite.specs.Held.{state}
use Rattle.fab_store_sql.specs.Statements.{delete_text}
use Rattle.fab_store_sql.specs.Trees.{key_width}
use Rattle.fab_store_sql.proofs.OneLine.{takes_line, key_cells}
use Rattle.fab_store_sql.proofs.lines.delete_line.Goals as goal

pub returns-clause-done : goal.returns-clause-done
returns-clause-done g c clean inside =
    let line = c.args.line.now in
    let old = state g.S.Store c.args.tx.now.conn.now in
    let new = state g.S.Store c.execute.new.self.conn.now in
    let text = c.delete_text.ensures ∙ ap delete_text c.values_of-values.ensures.table in
    takes_line line old new inside _ _ c.in_ok-_count._count text (key_cells line c.values_of-values.result.cells c.values_of-values.result.count c.key_width.result c.values_of-values.ensures.row (c.key_width.ensures.width ∙ ap key_width c.values_of-values.ensures.table)) (c.in_ok-_count.ensures.runs clean inside.inside)
