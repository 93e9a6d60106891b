use Rattle.fab_looks_tries.specs.Inner.Gathered.{HasPort, IsMoveAt}
use Rattle.fab_reach_base.proofs.Adding.{before_next}
use Rattle.fab_looks_tries.proofs.ports.add_ports.Goals as goal

pub loop-port-preserved : goal.loop-port-preserved
loop-port-preserved g c =
    before_next (IsMoveAt c.args.kind c.args.inventory.now) c.args.ports.now c.loop-port.port-index c.port-item.result (HasPort c.args.names.now) (HasPort c.loop-port.names) (HasPort c.add_port.new.names) c.loop-port-test.true c.port-item.is c.loop-port.invariant c.in_ok-add_port.ensures
