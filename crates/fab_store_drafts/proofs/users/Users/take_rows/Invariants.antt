use Rattle.std.proofs.Common.{take}
use Rattle.fab_store_drafts.specs.Users.{TakesUses}
use Rattle.fab_store_drafts.proofs.users.Users.take_rows.Given as goal

abbrev pub invariant-loop-row : goal.invariant-loop-row
invariant-loop-row g l = TakesUses (take l.row-index l.rows) l.fn.self l.self
