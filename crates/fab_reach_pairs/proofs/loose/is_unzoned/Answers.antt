use Rattle.fab_reach_pairs.proofs.LooseLoops.{none_zoned}
use Rattle.fab_zoning_rows.specs.PortZones.{in_zones}
use Rattle.fab_zoning_rows.specs.Holding.{Holds}
use Rattle.fab_reach_pairs.proofs.loose.is_unzoned.Goals as goal

pub returns : goal.returns
returns g c = none_zoned c.is_empty.result (in_zones c.zones_of-zones.result) (Holds c.args.zoning.now.rows c.args.port.now) c.zones_of-zones.ensures c.is_empty.ensures
