use Rattle.std.proofs.Common.{None, Some}
use Rattle.fab_reach_moves.proofs.PortsAfter.{port_said}
use Rattle.fab_reach_moves.proofs.after.said_port.Goals as goal

pub returns-in-Some : goal.returns-in-Some
returns-in-Some g c rows s = port_said rows c.args.side.now.ports s.ports c.args.name.now (Some c.in-Some.port.now) c.in-Some.ensures.value

pub returns-in-None : goal.returns-in-None
returns-in-None g c rows s = port_said rows c.args.side.now.ports s.ports c.args.name.now None c.in-None.ensures.value
