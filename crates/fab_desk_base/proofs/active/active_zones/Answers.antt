use Rattle.fab_desk_base.proofs.Zones.{zones_active}
use Rattle.fab_desk_base.proofs.active.active_zones.Goals as goal

pub returns : goal.returns
returns g c = zones_active c.args.zoning.now.rows c.in_ok-rows.rows.keys c.in_ok-zones.zones.items c.in_ok-rows.ensures c.in_ok-zones.ensures
