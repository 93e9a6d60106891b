use Rattle.std.proofs.Common.{sym}
use Rattle.fab_reach_books.specs.Inner.Sets.{HasPortIn}
use Rattle.fab_reach_pairs.proofs.OfferLoops.{hosts_added}
use Rattle.fab_reach_pairs.proofs.offers.add_hosts_of.Goals as goal

pub returns-in_ok-add_hosts : goal.returns-in_ok-add_hosts
returns-in_ok-add_hosts g c = hosts_added c.args.mapping.now c.args.held.now c.args.name.now c.in-Some.hosts.now (HasPortIn c.args.ports.now) (HasPortIn c.add_hosts.new.ports) (sym c.in-Some.ensures) c.in_ok-add_hosts.ensures
