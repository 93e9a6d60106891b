use Rattle.std.proofs.Common.{take}
use Rattle.fab_reach_base.specs.Adding.{Adds}
use Rattle.fab_reach_base.specs.Orders.{Has}
use Rattle.fab_reach_base.proofs.Adding.{Before}
use Rattle.fab_reach.proofs.AskedPairs.{IfNew}
use Rattle.fab_reach.proofs.asked.add_new.Given as goal

abbrev pub invariant-loop-path : goal.invariant-loop-path
invariant-loop-path g l = Adds (Before (IfNew l.rows l.these) (take l.path-index l.these)) (Has l.fn.paths) (Has l.paths)
