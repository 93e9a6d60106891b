use Rattle.std.proofs.Common.{take}
use Rattle.fab_store_drafts.specs.Users.{PutsUses}
use Rattle.fab_store_drafts.proofs.users.Users.put_rows.Given as goal

abbrev pub invariant-loop-row : goal.invariant-loop-row
invariant-loop-row g l = PutsUses (take l.row-index l.rows) l.fn.self l.self
