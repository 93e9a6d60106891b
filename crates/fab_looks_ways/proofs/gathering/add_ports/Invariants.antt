use Rattle.std.proofs.Common.{take}
use Rattle.fab_reach_base.specs.Adding.{Adds}
use Rattle.fab_reach_base.proofs.Adding.{Before}
use Rattle.fab_world.specs.Worlds.{records_of}
use Rattle.fab_looks_ways.specs.Inner.Gathering.{PortEnds}
use Rattle.fab_looks_ways.specs.Pairs.{HasEnds}
use Rattle.fab_looks_ways.proofs.gathering.add_ports.Given as goal

abbrev pub invariant-loop-port : goal.invariant-loop-port
invariant-loop-port g l = Adds (Before (PortEnds (records_of l.world) l.fabric l.target) (take l.port-index l.ports)) (HasEnds l.fn.ends) (HasEnds l.ends)
