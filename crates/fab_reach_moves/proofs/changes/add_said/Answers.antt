use Rattle.fab_reach_moves.proofs.Changed.{port_said}
use Rattle.fab_reach_books.proofs.SetLoops.{adds_port}
use Rattle.fab_reach_books.specs.Inner.Sets.{HasPortIn}
use Rattle.fab_reach_moves.proofs.changes.add_said.Goals as goal

pub returns : goal.returns
returns g c = port_said c.args.row.now c.in-Port.port (HasPortIn c.args.ports.now) (HasPortIn c.insert.new.self) c.in-Port.is (adds_port c.args.ports.now c.insert.new.self c.in-Port.port.name c.in_ok-insert.ensures.updates.0)
