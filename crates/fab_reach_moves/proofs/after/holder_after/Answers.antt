use Rattle.std.proofs.Common.{sym}
use Rattle.fab_reach_books.proofs.Staying.{holder_known}
use Rattle.fab_reach_moves.proofs.PortsAfter.{holder_unknown}
use Rattle.fab_reach_moves.proofs.after.holder_after.Goals as goal

pub returns-in_default : goal.returns-in_default
returns-in_default g c v d = sym (holder_unknown v.inventory.ports c.args.name.now (sym (c.in_default.ensures v d)))

pub returns : goal.returns
returns g c v d = sym (holder_known v.inventory.ports c.args.name.now c.in-Some.port (sym (c.in-Some.ensures v d)))
