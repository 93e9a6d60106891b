use Rattle.std.proofs.Common.{sym}
use Rattle.fab_reach_books.specs.Inner.Sets.{HasPairIn}
use Rattle.fab_reach_pairs.proofs.OfferLoops.{with_served}
use Rattle.fab_reach_pairs.proofs.offers.add_served_by.Goals as goal

pub returns : goal.returns
returns g c = with_served c.args.mapping.now c.args.held.now c.args.name.now c.in-Some.group.now c.in_ok-ports.ports c.args.target (HasPairIn c.args.pairs.now) (HasPairIn c.add_with_target.new.pairs) (sym c.in-Some.ensures) c.in_ok-ports.ensures c.in_ok-add_with_target.ensures
