use Rattle.fab_looks_ways.proofs.Tied.{all_zones}
use Rattle.fab_looks_ways.proofs.zoned.names_of.Goals as goal

pub returns : goal.returns
returns g c =
    all_zones c.args.zones.now c.new-names.result c.add_those.new.names c.add_those-2.new.names c.add_those-3.new.names c.add_those-4.new.names c.new-names.ensures.empty c.in_ok-add_those.ensures c.in_ok-add_those-2.ensures c.in_ok-add_those-3.ensures c.in_ok-add_those-4.ensures
