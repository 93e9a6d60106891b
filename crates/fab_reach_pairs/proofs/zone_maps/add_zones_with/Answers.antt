use Rattle.std.proofs.Common.{◌≡◌, true}
use Rattle.std.specs.FinSet as set
use Rattle.std.specs.Ordering.{nat_cmp}
use Rattle.fab_zoning.specs.Edits.{IsIn}
use Rattle.fab_reach_base.specs.Records.{zoning_at}
use Rattle.fab_reach_books.specs.Inner.Sets.{HasName}
use Rattle.fab_reach_index.specs.Indexes.{zone_cmp}
use Rattle.fab_reach_index.proofs.ZonesPlaced.{zones_as}
use Rattle.fab_reach_pairs.proofs.zone_maps.add_zones_with.Goals as goal

pub returns : goal.returns
returns g c v t = zones_as c.args.at.now.0 c.args.at.now.1 (HasName c.in_ok-these.these) (λ z. set.contains (zoning_at v.config c.args.at.now.1).rows (z, c.args.member.now) ≡ true) (IsIn nat_cmp zone_cmp c.args.zones.now) (IsIn nat_cmp zone_cmp c.add_zones.new.zones)
    (λ z. (c.in_ok-these.ensures v t z).0) (λ z. (c.in_ok-these.ensures v t z).1) c.in_ok-add_zones.ensures
