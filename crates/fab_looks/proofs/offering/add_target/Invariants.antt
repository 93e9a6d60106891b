use Rattle.std.proofs.Common.{take}
use Rattle.fab_reach_base.specs.Adding.{Adds}
use Rattle.fab_reach_base.specs.Orders.{Has}
use Rattle.fab_reach_base.proofs.Adding.{Before}
use Rattle.fab_looks.specs.Inner.Offers.{PairPath}
use Rattle.fab_looks.proofs.offering.add_target.Given as goal

abbrev pub invariant-loop-p : goal.invariant-loop-p
invariant-loop-p g l = Adds (Before (PairPath l.group l.volume l.q) (take l.p-index l.ports)) (Has l.fn.paths) (Has l.paths)
