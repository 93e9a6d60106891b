use Rattle.std.proofs.Common.{◌≡◌, Option, true, subst}
use Rattle.fab_names.specs.declared.member.Member.{Member}
use Rattle.fab_zoning_rows.specs.Holding.{has_row}
use Rattle.fab_zoning.specs.Edits.{IsIn}
use Rattle.fab_reach_base.specs.Adding.{Adds}
use Rattle.fab_reach_base.specs.Records.{zoning_at}
use Rattle.std.specs.Ordering.{nat_cmp}
use Rattle.fab_reach_index.specs.Indexes.{zone_cmp}
use Rattle.fab_reach_index.specs.Inner.Placing.{ByZones}
use Rattle.fab_reach_pairs.proofs.ZonesGathered.{unknown, nowhere, four_zones}
use Rattle.fab_reach_pairs.proofs.zone_maps.add_zones_after.Goals as goal

pub returns-in_default : goal.returns-in_default
returns-in_default g c v s t = unknown v s c.args.name.now (IsIn nat_cmp zone_cmp c.args.zones.now) (c.in_default.ensures v t)

pub returns-in_default-at : goal.returns-in_default-at
returns-in_default-at g c v s t = nowhere v s c.args.name.now c.in-Some.port (c.in-Some.ensures v t) (IsIn nat_cmp zone_cmp c.args.zones.now) c.in_default-at.is

pub returns : goal.returns
returns g c v s t =
    four_zones v s c.args.name.now c.in-Some.port (c.in-Some.ensures v t) c.in-Some-at.fabric c.in-Some-at.place c.in-Some-at.is (IsIn nat_cmp zone_cmp c.args.zones.now) (IsIn nat_cmp zone_cmp c.add_zones_with.new.zones) (IsIn nat_cmp zone_cmp c.add_zones_with-2.new.zones)
    (IsIn nat_cmp zone_cmp c.add_zones_with-3.new.zones) (IsIn nat_cmp zone_cmp c.add_some_zones_with.new.zones) (c.in_ok-add_zones_with.ensures v t) (c.in_ok-add_zones_with-2.ensures v t) (c.in_ok-add_zones_with-3.ensures v t)
    (subst (λ (m : Option Member). Adds (ByZones (λ z. has_row (zoning_at v.config c.in-Some-at.fabric).rows z m ≡ true) c.args.name.now c.in-Some-at.fabric) (IsIn nat_cmp zone_cmp c.add_zones_with-3.new.zones) (IsIn nat_cmp zone_cmp c.add_some_zones_with.new.zones)) c.address_member.ensures (c.in_ok-add_some_zones_with.ensures v t))
