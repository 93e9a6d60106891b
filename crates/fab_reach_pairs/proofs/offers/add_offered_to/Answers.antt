use Rattle.std.proofs.Common.{sym}
use Rattle.fab_reach_books.specs.Inner.Sets.{HasPairIn}
use Rattle.fab_reach_pairs.proofs.OfferLoops.{offered_to}
use Rattle.fab_reach_pairs.proofs.offers.add_offered_to.Goals as goal

pub returns-in_ok-add_served_by_all : goal.returns-in_ok-add_served_by_all
returns-in_ok-add_served_by_all g c = offered_to c.args.mapping.now c.args.index.now.held c.args.index.now.targeted c.args.target.now c.in-Some.names.now (HasPairIn c.args.pairs.now) (HasPairIn c.add_served_by_all.new.pairs) (sym c.in-Some.ensures.value) c.in_ok-add_served_by_all.ensures
