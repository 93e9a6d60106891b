use Rattle.std.proofs.Common.{sym}
use Rattle.fab_looks_ways.specs.Inner.Offers.{HasUnit}
use Rattle.fab_looks_ways.proofs.Offered.{named_added}
use Rattle.fab_looks_ways.proofs.offers.add_named.Goals as goal

pub returns : goal.returns
returns g c = named_added c.args.mapping.now c.args.volume.now c.args.name.now c.in-Some.group.now (HasUnit c.args.units.now) (HasUnit c.add_units.new.units) (sym c.in-Some.ensures) c.in_ok-add_units.ensures
