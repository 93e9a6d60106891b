use Rattle.fab_reach_base.proofs.Adding.{before_next}
use Rattle.fab_world.specs.Worlds.{records_of}
use Rattle.fab_looks_ways.specs.Inner.Gathering.{PortEnds}
use Rattle.fab_looks_ways.specs.Pairs.{HasEnds}
use Rattle.fab_looks_ways.proofs.gathering.add_ports.Goals as goal

pub loop-port-preserved : goal.loop-port-preserved
loop-port-preserved g c =
    before_next (PortEnds (records_of c.args.world.now) c.args.fabric c.args.target) c.args.ports.now c.loop-port.port-index c.port-item.result (HasEnds c.args.ends.now) (HasEnds c.loop-port.ends) (HasEnds c.add_port.new.ends) c.loop-port-test.true c.port-item.is c.loop-port.invariant c.in_ok-add_port.ensures
