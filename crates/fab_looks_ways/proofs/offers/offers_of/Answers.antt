use Rattle.fab_looks_ways.specs.Inner.Offers.{IsOfferOf}
use Rattle.fab_looks_ways.proofs.Offered.{offers_listed}
use Rattle.fab_looks_ways.proofs.offers.offers_of.Goals as goal

pub returns : goal.returns
returns g c = offers_listed (IsOfferOf c.args.mapping.now c.args.names.now c.args.host.now) c.new-offers.result c.add_offers.new.offers c.in_ok-items.items.items c.new-offers.ensures.empty c.len-count.ensures.ordered c.in_ok-add_offers.ensures c.in_ok-items.ensures
