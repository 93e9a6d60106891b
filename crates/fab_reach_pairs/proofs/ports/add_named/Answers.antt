use Rattle.fab_reach_books.proofs.SetLoops.{adds_port}
use Rattle.fab_reach_books.specs.Inner.Sets.{HasPortIn}
use Rattle.fab_reach_pairs.proofs.Owning.{port_named}
use Rattle.fab_reach_pairs.proofs.ports.add_named.Goals as goal

pub returns-in_ok-insert : goal.returns-in_ok-insert
returns-in_ok-insert g c = port_named c.args.row.now c.in-Port.port (HasPortIn c.args.ports.now) (HasPortIn c.insert.new.self) c.in-Port.is (adds_port c.args.ports.now c.insert.new.self c.in-Port.port.name c.in_ok-insert.ensures.updates.0)
