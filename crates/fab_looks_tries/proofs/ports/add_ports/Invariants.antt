use Rattle.std.proofs.Common.{take}
use Rattle.fab_looks_tries.specs.Inner.Gathered.{HasPort, IsMoveOfSome}
use Rattle.fab_reach_base.specs.Adding.{Adds}
use Rattle.fab_looks_tries.proofs.ports.add_ports.Given as goal

abbrev pub invariant-loop-port : goal.invariant-loop-port
invariant-loop-port g l = Adds (IsMoveOfSome l.kind l.inventory (take l.port-index l.ports)) (HasPort l.fn.names) (HasPort l.names)
