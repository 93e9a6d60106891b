use Rattle.fab_reach_books.specs.Inner.Sets.{HasPortIn}
use Rattle.fab_reach_books.proofs.SetLoops.{adds_port}
use Rattle.fab_reach_moves.proofs.ListsAfter.{is_unsaid, is_said}
use Rattle.fab_reach_moves.proofs.lists_after.add_unless_said.Goals as goal

pub returns-in-Some : goal.returns-in-Some
returns-in-Some g c rows s = let h = c.in-Some.ensures rows s in is_said rows c.args.port.now c.in-Some._port (HasPortIn c.args.ports.now) h.0 h.1

pub returns : goal.returns
returns g c rows s = is_unsaid rows c.args.port.now (HasPortIn c.args.ports.now) (HasPortIn c.insert.new.self) (c.in_default.ensures rows s) (adds_port c.args.ports.now c.insert.new.self c.args.port.now c.in_ok-insert.ensures.updates.0)
