-- Which hosts are offered a volume, by which storage groups, and which of their ports are logged in: what the
-- private loops say of themselves. No public contract names anything of this file.
use Rattle.std.specs.Prelude.{ℕ, ◌≡◌, ◌↔◌, List, Some, IsSome, IsTrue, true}
use Rattle.std.specs.Ordering.{nat_cmp}
use Rattle.std.specs.BTreeMap.{BTreeMap, get}
use Rattle.std.specs.BTreeSet.{BTreeSet, contains}
use Rattle.std.specs.FinMap as map
use Rattle.fab_names.specs.Orders.{name_cmp}
use Rattle.fab_inventory.specs.declared.port.Port.{Port}
use Rattle.fab_lemmas.specs.MapsOfSets.{tree_has}
use Rattle.fab_mapping_base.specs.Groups.{StorageGroupRows, MapsVolume}
use Rattle.fab_mapping.specs.Mappings.{MappingRows}
use Rattle.fab_reach_base.specs.Records.{Records}
use Rattle.fab_reach_base.specs.Gathering.{Index, Lists, Serves}
use Rattle.fab_reach_base.specs.Reach.{IsInitiator}
use Rattle.fab_looks.specs.Inner.Offers.{IsLoggedIn}

-- ---- storage groups, by the hosts that they serve

-- the storage group is exposed, maps the volume and serves the host
abbrev pub Offers : MappingRows → List ℕ → StorageGroupRows → List ℕ → Type 0
Offers m volume g host = (g.exposed ≡ true) × MapsVolume volume g × Serves m g host

-- this storage group does, which has this name
abbrev pub ByGroup : MappingRows → List ℕ → List ℕ × StorageGroupRows → List ℕ × List ℕ → Type 0
ByGroup m volume x e = Offers m volume x.1 e.0 × (e.1 ≡ x.0)

-- the storage group of this name does
abbrev pub IsOfferedBy : MappingRows → List ℕ → List ℕ × List ℕ → Type 0
IsOfferedBy m volume e = (g : StorageGroupRows) × (map.get m.groups e.1 ≡ Some g) × Offers m volume g e.0

-- the index has just the hosts that are offered the volume, each with the storage groups that do
abbrev pub IsIndexTo : MappingRows → List ℕ → Index → Type 0
IsIndexTo m volume t = (e : List ℕ × List ℕ) → Lists t e ↔ IsOfferedBy m volume e

-- the storage group has one of these names
abbrev pub IsNamedBy : MappingRows → BTreeSet (List ℕ) → StorageGroupRows → Type 0
IsNamedBy m names g = (n : List ℕ) × IsTrue (contains name_cmp names n) × (map.get m.groups n ≡ Some g)

-- ---- ports, by the hosts that hold them

-- the names of ports by host
abbrev pub PortIndex : Type 0
PortIndex = BTreeMap (List ℕ) (BTreeSet ℕ)

-- the index has the port of this name at the host
abbrev pub ListsPort : PortIndex → List ℕ × ℕ → Type 0
ListsPort t e = tree_has name_cmp nat_cmp t e.0 e.1 ≡ true

-- the port of this name is logged in, the host holds it, and the host is one of those of the index
abbrev pub IsLoginAt : Records → Index → List ℕ × ℕ → Type 0
IsLoginAt w served e = IsSome (get name_cmp served e.0) × ((p : Port) × IsLoggedIn w e.1 p × IsInitiator w p e.0)

-- the port of just this name
abbrev pub ByLogin : Records → Index → ℕ → List ℕ × ℕ → Type 0
ByLogin w served name e = (e.1 ≡ name) × IsLoginAt w served e

-- the index has just the ports that are logged in, under the hosts of the other index that hold them
abbrev pub AreLoginsOf : Records → Index → PortIndex → Type 0
AreLoginsOf w served t = (e : List ℕ × ℕ) → ListsPort t e ↔ IsLoginAt w served e

-- the set has just such ports of the host
abbrev pub AreLoginsAt : Records → Index → List ℕ → BTreeSet ℕ → Type 0
AreLoginsAt w served host names = (q : ℕ) → IsTrue (contains nat_cmp names q) ↔ IsLoginAt w served (host, q)

-- the port is logged in, and has one of these names
abbrev pub IsPortNamedBy : Records → BTreeSet ℕ → Port → Type 0
IsPortNamedBy w names p = (q : ℕ) × IsTrue (contains nat_cmp names q) × IsLoggedIn w q p
