use Rattle.std.proofs.Common.{sym, subst}
use Rattle.fab_store_tables.specs.UndoLines.{ShowsEntry, UndoColumns}
use Rattle.fab_store_tables.proofs.undo_line.UndoLine.read.Goals as goal

pub returns-in_default-read_entry-clause-row : goal.returns-in_default-read_entry-clause-row
returns-in_default-read_entry-clause-row g c r h = c.in_default-read_entry.ensures r.row (subst (λ t. ShowsEntry t r.row) (sym c.as_str-3.ensures.value) (subst (λ (l : UndoColumns). ShowsEntry l.entry r.row) (sym c.self.view_is) h.entry))
