use Rattle.std.proofs.Common.{◌≡◌, Option, true, OnOk, sym, ap, subst, ◌∙◌}
use mathlib.Core.Bool.{true≢false}
use Rattle.std.specs.Ordering.{nat_cmp}
use Rattle.fab_names.specs.declared.member.Member.{Member}
use Rattle.fab_zoning.specs.Edits.{IsIn}
use Rattle.fab_reach_base.specs.Adding.{Adds}
use Rattle.fab_reach_base.specs.Records.{zoning_at}
use Rattle.fab_reach_index.specs.Indexes.{zone_cmp}
use Rattle.fab_reach_index.specs.Inner.Placing.{ByZones}
use Rattle.fab_reach_index.proofs.ZonesPlaced.{zones_none}
use Rattle.fab_zoning_rows.specs.Holding.{has_row}
use Rattle.fab_reach_pairs.proofs.zone_maps.add_some_zones_with.Goals as goal

pub returns-in_default : goal.returns-in_default
returns-in_default g c v t =
    let rows = (zoning_at v.config c.args.at.now.1).rows in
    zones_none c.args.at.now.0 c.args.at.now.1 (λ z. has_row rows z c.args.member ≡ true) (IsIn nat_cmp zone_cmp c.args.zones.now) (λ z h. true≢false (sym h ∙ ap (has_row rows z) c.in_default.is))

pub returns : goal.returns
returns g c v t =
    let rows = (zoning_at v.config c.args.at.now.1).rows in
    subst (λ (m : Option Member). OnOk c.add_zones_with.result (Adds (ByZones (λ z. has_row rows z m ≡ true) c.args.at.now.0 c.args.at.now.1) (IsIn nat_cmp zone_cmp c.args.zones.now) (IsIn nat_cmp zone_cmp c.add_zones_with.new.zones))) (sym c.in-Some.is) (c.add_zones_with.ensures v t)
