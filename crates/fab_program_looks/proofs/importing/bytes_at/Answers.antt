use Rattle.std.proofs.Common.{inr, rules}
use Rattle.fab_program_looks.proofs.importing.bytes_at.Goals as goal

pub returns-in-Ok : goal.returns-in-Ok
returns-in-Ok g c = inr (search rules, inr (inr (c.in-Ok.rows, c.in-Ok.ensures.ok, c.rows_at.ensures)))
