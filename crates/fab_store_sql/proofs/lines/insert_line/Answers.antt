use Rattle.std.proofs.Common.{◌∙◌, ap}
use Rattle.sqlite.specs.Held.{state}
use Rattle.fab_store_sql.specs.Statements.{insert_text}
use Rattle.fab_store_sql.proofs.OneLine.{puts_line}
use Rattle.fab_store_sql.proofs.lines.insert_line.Goals as goal

pub returns-clause-done : goal.returns-clause-done
returns-clause-done g c clean inside =
    let line = c.args.line.now in
    let old = state g.S.Store c.args.tx.now.conn.now in
    let new = state g.S.Store c.execute.new.self.conn.now in
    let text = c.insert_text.ensures ∙ ap insert_text c.values_of-values.ensures.table in
    puts_line line old new inside _ _ c.in_ok-_count._count text c.values_of-values.ensures.row (c.in_ok-_count.ensures.runs clean inside.inside)
