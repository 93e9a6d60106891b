use Rattle.std.proofs.Common.{List, ℕ, Bool, ◌||◌}
use Rattle.std.specs.Option.{option_copied}
use Rattle.fab_inventory.specs.fab_names.Orders.{name_cmp}
use Rattle.fab_inventory.specs.fab_lemmas.MapsOfSets.{in_tree}
use Rattle.fab_zoning_rows.specs.PortZones.{in_zones}
use Rattle.fab_zoning_rows.proofs.PortZoneLemmas.{first_of_either}
use Rattle.fab_zoning_rows.proofs.port_zones.PortZones.first_common.Goals as goal

pub returns : goal.returns
returns g c =
    let p = c.args.self.now in
    let t = in_zones c.args.other.now in
    let by_port : List ℕ → Bool = in_tree name_cmp (option_copied p.by_port) in
    let by_node : List ℕ → Bool = in_tree name_cmp (option_copied p.by_node) in
    let by_place : List ℕ → Bool = in_tree name_cmp (option_copied p.by_place) in
    let by_address : List ℕ → Bool = in_tree name_cmp (option_copied p.by_address) in
    let last = first_of_either by_place by_address t _ _ _ c.first_in-by_place.ensures c.first_in-by_address.ensures c.lesser.ensures in
    let later = first_of_either by_node (λ z. by_place z || by_address z) t _ _ _ c.first_in-by_node.ensures last c.lesser-2.ensures in
    first_of_either by_port (λ z. by_node z || (by_place z || by_address z)) t _ _ _ c.first_in-by_port.ensures later c.lesser-3.ensures
