use Rattle.std.proofs.Common.{take, Contains}
use Rattle.fab_reach_base.specs.Adding.{Adds}
use Rattle.fab_reach_base.proofs.Adding.{Before}
use Rattle.fab_reach_books.proofs.GivenRows.{OfPort}
use Rattle.fab_reach_books.proofs.told_rows.add_ports.Given as goal

abbrev pub invariant-loop-port : goal.invariant-loop-port
invariant-loop-port g l = Adds (Before OfPort (take l.port-index l.ports)) (Contains l.fn.rows.items) (Contains l.rows.items)
