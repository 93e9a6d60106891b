use Rattle.std.specs.BTreeMap.{get}
use Rattle.fab_names.specs.Orders.{name_cmp}
use Rattle.fab_inventory.proofs.Restoring.{counted}
use Rattle.fab_inventory.proofs.restore.count_port.Goals as goal

pub returns-clause-counted : goal.returns-clause-counted
returns-clause-counted g c = counted c.in-Some.holder c.args.known.now c.count_of-count.result (get name_cmp c.args.counts.now) (get name_cmp c.insert.new.self) c.in-Some.is c.count_of-count.ensures c.in_ok-insert.ensures.updates.0
