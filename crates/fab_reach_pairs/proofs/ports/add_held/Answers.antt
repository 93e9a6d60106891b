use Rattle.fab_reach_pairs.proofs.Owning.{held_added, unheld}
use Rattle.fab_reach_pairs.proofs.ports.add_held.Goals as goal

pub returns-in_ok-insert : goal.returns-in_ok-insert
returns-in_ok-insert g c v told = held_added v c.args.port.now c.in-Some.holder c.args.owners.now c.insert.new.self (c.in-Some.ensures v told) c.in_ok-insert.ensures.updates.0

pub returns-in_default : goal.returns-in_default
returns-in_default g c v told = unheld v c.args.port.now c.args.owners.now (c.in_default.ensures v told)
