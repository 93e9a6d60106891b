use Rattle.std.proofs.Common.{inl}
use Rattle.fab_program_looks.proofs.importing.rows_at.Goals as goal

pub returns-in-Ok : goal.returns-in-Ok
returns-in-Ok g c = inl (c.in-Ok.tried, c.in-Ok.ensures.ok, c.print_import.ensures)
