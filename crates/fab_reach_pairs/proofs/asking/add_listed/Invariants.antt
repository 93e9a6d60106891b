use Rattle.std.proofs.Common.{take}
use Rattle.fab_reach_base.specs.Adding.{Adds}
use Rattle.fab_reach_base.specs.Orders.{Has}
use Rattle.fab_reach_base.proofs.Adding.{Before}
use Rattle.fab_reach_pairs.proofs.Asked.{Is}
use Rattle.fab_reach_pairs.proofs.asking.add_listed.Given as goal

abbrev pub invariant-loop-path : goal.invariant-loop-path
invariant-loop-path g l = Adds (Before Is (take l.path-index l.these)) (Has l.fn.paths) (Has l.paths)
