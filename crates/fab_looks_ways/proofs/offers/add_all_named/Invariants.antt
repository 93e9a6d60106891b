use Rattle.std.proofs.Common.{take}
use Rattle.fab_reach_base.specs.Adding.{Adds}
use Rattle.fab_reach_base.proofs.Adding.{Before}
use Rattle.fab_looks_ways.specs.Inner.Offers.{HasUnit}
use Rattle.fab_looks_ways.specs.Offers.{IsUnitAt}
use Rattle.fab_looks_ways.proofs.offers.add_all_named.Given as goal

abbrev pub invariant-loop-name : goal.invariant-loop-name
invariant-loop-name g l = Adds (Before (IsUnitAt l.mapping l.volume) (take l.name-index l.names)) (HasUnit l.fn.units) (HasUnit l.units)
