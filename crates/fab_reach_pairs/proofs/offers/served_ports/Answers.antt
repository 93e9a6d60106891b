use Rattle.fab_reach_books.proofs.SetLoops.{from_nothing}
use Rattle.fab_reach_pairs.specs.Inner.Offering.{IsPortServed}
use Rattle.fab_reach_pairs.proofs.offers.served_ports.Goals as goal

pub returns : goal.returns
returns g c = from_nothing (IsPortServed c.args.mapping.now c.args.held.now c.args.group.now) c.new-ports.result c.add_served.new.ports c.new-ports.ensures.empty c.in_ok-add_served.ensures
