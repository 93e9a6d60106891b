use Rattle.std.proofs.Common.{sym}
use Rattle.fab_reach_base.specs.Views.{seen}
use Rattle.fab_reach_books.proofs.Staying.{holder_known}
use Rattle.fab_reach_moves.proofs.PortsAfter.{holder_unknown}
use Rattle.fab_reach_moves.proofs.after.holder_before.Goals as goal

pub returns-in_default : goal.returns-in_default
returns-in_default g c = sym (holder_unknown (seen c.args.before.now).inventory.ports c.args.name.now (sym c.in_default.ensures.port))

pub returns : goal.returns
returns g c = sym (holder_known (seen c.args.before.now).inventory.ports c.args.name.now c.in-Some.port (sym c.in-Some.ensures.port))
