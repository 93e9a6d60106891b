use Rattle.std.proofs.Common.{IfOk, MatchOption, sym, subst}
use Rattle.fab_store_rows.specs.declared.table_rows.CountRow.{CountRow}
use Rattle.fab_store_tables.specs.Rows.{count, ShowsRow, IsInRange}
use Rattle.fab_store_tables.proofs.row.CountRowRow.line.Goals as goal

pub returns-in-Schema : goal.returns-in-Schema
returns-in-Schema g c = subst (λ (r : CountRow). IfOk c.number_line.result (λ found. MatchOption found (¬ IsInRange (count r)) (ShowsRow (count r)))) (sym c.in-Schema.is) c.number_line.ensures

pub returns-in-Revision : goal.returns-in-Revision
returns-in-Revision g c = subst (λ (r : CountRow). IfOk c.number_line-in-Revision.result (λ found. MatchOption found (¬ IsInRange (count r)) (ShowsRow (count r)))) (sym c.in-Revision.is) c.number_line-in-Revision.ensures
