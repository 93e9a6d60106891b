use Rattle.fab_looks_ways.specs.Offers.{IsUnitOfSome}
use Rattle.fab_looks_ways.proofs.Offered.{units_listed}
use Rattle.fab_looks_ways.proofs.offers.units_of.Goals as goal

pub returns : goal.returns
returns g c = units_listed (IsUnitOfSome c.args.mapping.now c.args.volume.now c.args.names.now) c.new-units.result c.add_all_named.new.units c.in_ok-items.items.items c.new-units.ensures.empty c.len-count.ensures.ordered c.in_ok-add_all_named.ensures c.in_ok-items.ensures
