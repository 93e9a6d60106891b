-- Which ports a member stands for, and which zones hold a port.
use Rattle.std.specs.Prelude.{ℕ, ◌≡◌, List, Option, None, Some, Bool, true, false}
use Rattle.std.specs.Option.{option_map}
use Rattle.std.specs.FinSet as set
use Rattle.fab_inventory.specs.fab_names.Places.{Position}
use Rattle.fab_inventory.specs.fab_names.declared.fabric.Fabric.{Fabric}
use Rattle.fab_inventory.specs.fab_names.declared.member.Member.{Member}
use Rattle.fab_inventory.specs.fab_names.declared.member.Member.TheVariants as member
use Rattle.fab_inventory.specs.declared.port.Port.{Port}
use Rattle.fab_zoning_rows.specs.Rows.{Rows}

-- the member stands for the port: it has the port's N_Port_Name or Node_Name, or the port is
-- logged in at its place, or has its address; an alias stands for none
abbrev pub Matches : Member → Port → Type 0
Matches (member.Port name) p = p.name ≡ name
Matches (member.Node name) p = p.node ≡ name
Matches (member.Place place) p = (f : Fabric) × (p.at ≡ Some (f, place))
Matches (member.Address address) p = p.address ≡ Some address
Matches (member.Alias name) p = ⊥

-- the port is logged in at the fabric
abbrev pub IsLoggedInAt : Fabric → Port → Type 0
IsLoggedInAt f p = (place : Position) × (p.at ≡ Some (f, place))

-- some row of the zone has a member that stands for the port
abbrev pub Holds : Rows → Port → List ℕ → Type 0
Holds rows p z = (m : Member) × (set.contains rows (z, m) ≡ true) × Matches m p

-- the members that stand for a port by its place, where it is logged in, and by its address, where it
-- has one
abbrev pub place_member : Port → Option Member
place_member p = option_map (λ at. member.Place at.1) p.at

abbrev pub address_member : Port → Option Member
address_member p = option_map member.Address p.address

-- whether the zone has the member, if there is a member
abbrev pub has_row : Rows → List ℕ → Option Member → Bool
has_row rows z None = false
has_row rows z (Some m) = set.contains rows (z, m)
