use Rattle.std.specs.Ordering.{nat_cmp}
use Rattle.fab_zoning.specs.Edits.{IsIn}
use Rattle.fab_reach_index.specs.Indexes.{zone_cmp}
use Rattle.fab_reach_base.specs.Views.{seen}
use Rattle.fab_reach_index.proofs.ZonesPlaced.{both_fabrics}
use Rattle.fab_reach_index.proofs.zoning_index.add_zones_of.Goals as goal

pub returns : goal.returns
returns g c = both_fabrics (seen c.args.view.now) c.requires c.args.name.now (IsIn nat_cmp zone_cmp c.args.zones.now) (IsIn nat_cmp zone_cmp c.add_zones_at.new.zones) (IsIn nat_cmp zone_cmp c.add_zones_at-2.new.zones) c.in_ok-add_zones_at.ensures c.in_ok-add_zones_at-2.ensures
