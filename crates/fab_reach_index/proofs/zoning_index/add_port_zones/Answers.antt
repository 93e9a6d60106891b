use Rattle.std.specs.Option.{option_copied}
use Rattle.fab_lemmas.specs.MapsOfSets.{in_tree}
use Rattle.fab_names.specs.Orders.{name_cmp}
use Rattle.std.specs.Ordering.{nat_cmp}
use Rattle.fab_zoning.specs.Edits.{IsIn}
use Rattle.fab_reach_index.specs.Indexes.{zone_cmp}
use Rattle.fab_reach_index.proofs.ZonesPlaced.{zones_four}
use Rattle.fab_reach_index.proofs.zoning_index.add_port_zones.Goals as goal

pub returns : goal.returns
returns g c =
    let p = c.args.these.now in
    zones_four c.args.port c.args.fabric (λ z. in_tree name_cmp (option_copied p.by_port) z) (λ z. in_tree name_cmp (option_copied p.by_node) z) (λ z. in_tree name_cmp (option_copied p.by_place) z) (λ z. in_tree name_cmp (option_copied p.by_address) z)
    (IsIn nat_cmp zone_cmp c.args.zones.now) (IsIn nat_cmp zone_cmp c.add_some_zones.new.zones) (IsIn nat_cmp zone_cmp c.add_some_zones-2.new.zones) (IsIn nat_cmp zone_cmp c.add_some_zones-3.new.zones) (IsIn nat_cmp zone_cmp c.add_some_zones-4.new.zones)
    c.in_ok-add_some_zones.ensures c.in_ok-add_some_zones-2.ensures c.in_ok-add_some_zones-3.ensures c.in_ok-add_some_zones-4.ensures
