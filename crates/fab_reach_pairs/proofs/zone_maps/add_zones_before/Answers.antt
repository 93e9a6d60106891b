use Rattle.std.proofs.Common.{sym}
use Rattle.std.specs.Ordering.{nat_cmp}
use Rattle.fab_zoning.specs.Edits.{IsIn}
use Rattle.fab_reach_index.specs.Indexes.{zone_cmp}
use Rattle.fab_reach_pairs.proofs.ZonesGathered.{port_zones, no_zones}
use Rattle.fab_reach_pairs.proofs.zone_maps.add_zones_before.Goals as goal

pub returns-in_ok-add_all_at : goal.returns-in_ok-add_all_at
returns-in_ok-add_all_at g c = port_zones c.args.index.now.zones c.args.port.now c.in-Some.own.now (IsIn nat_cmp zone_cmp c.args.zones.now) (IsIn nat_cmp zone_cmp c.add_all_at.new.sets) (sym c.in-Some.ensures.value) c.in_ok-add_all_at.ensures

pub returns-in_default : goal.returns-in_default
returns-in_default g c = no_zones c.args.index.now.zones c.args.port.now (IsIn nat_cmp zone_cmp c.args.zones.now) (sym c.in_default.ensures.value)
