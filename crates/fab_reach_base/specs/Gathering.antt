-- How paths are found: the exposed storage groups that serve a host, the targets that they have, and what
-- the loops over them add.
use Rattle.std.specs.Prelude.{ℕ, ◌≡◌, ◌↔◌, ◌<◌, List, length, Option, Some, true, IsTrue}
use Rattle.std.specs.BTreeMap.{BTreeMap}
use Rattle.std.specs.BTreeSet.{BTreeSet, IsOrdered, contains}
use Rattle.std.specs.FinMap as map
use Rattle.std.specs.FinSet as set
use Rattle.fab_mapping.specs.fab_mapping_base.fab_names.Orders.{name_cmp}
use Rattle.fab_mapping.specs.fab_mapping_base.fab_names.declared.fabric.Fabric.{Fabric}
use Rattle.fab_mapping.specs.fab_mapping_base.fab_inventory.declared.port.Port.{Port}
use Rattle.fab_zoning.specs.fab_zoning_rows.Holding.{IsLoggedInAt}
use Rattle.fab_zoning.specs.Joins.{Joined}
use Rattle.fab_mapping.specs.fab_mapping_base.fab_lemmas.MapsOfSets.{in_tree, tree_has}
use Rattle.fab_mapping.specs.fab_mapping_base.Groups.{HostGroupRows, StorageGroupRows}
use Rattle.fab_mapping.specs.Mappings.{MappingRows}
use Rattle.fab_reach_base.specs.Records.{Records, zoning_at}
use Rattle.fab_reach_base.specs.Reach.{IsTarget, PathOf}
use Rattle.fab_reach_base.specs.Adding.{AddsOnly}
use Rattle.fab_reach_base.specs.Orders.{path_cmp, Has}
use Rattle.fab_reach_base.specs.declared.path.Path.{Path}
use Rattle.fab_reach_base.specs.declared.listing.PathsFault.{PathsFault}
use Rattle.fab_reach_base.specs.declared.listing.PathsFault.TheVariants.{TooMany, Memory}

-- the names of storage groups by host
abbrev pub Index : Type 0
Index = BTreeMap (List ℕ) (BTreeSet (List ℕ))

-- the index has the storage group of this name at the host
abbrev pub Lists : Index → List ℕ × List ℕ → Type 0
Lists t e = tree_has name_cmp name_cmp t e.0 e.1 ≡ true

-- a host group of this name, which the storage group has, names the host
abbrev pub ServesBy : MappingRows → List ℕ → List ℕ → Type 0
ServesBy m k host = (hosts : HostGroupRows) × (map.get m.host_groups k ≡ Some hosts) × (set.contains hosts.hosts host ≡ true)

-- the storage group serves the host, by one of its host groups
abbrev pub Serves : MappingRows → StorageGroupRows → List ℕ → Type 0
Serves m g host = (k : List ℕ) × (set.contains g.host_groups k ≡ true) × ServesBy m k host

-- an exposed storage group of this name serves the host
abbrev pub IsServed : MappingRows → List ℕ × List ℕ → Type 0
IsServed m e = (g : StorageGroupRows) × (map.get m.groups e.1 ≡ Some g) × (g.exposed ≡ true) × Serves m g e.0

-- the index has just the exposed storage groups that serve each host
abbrev pub IsIndexOf : MappingRows → Index → Type 0
IsIndexOf m t = (e : List ℕ × List ℕ) → Lists t e ↔ IsServed m e

-- the set, if there is one, has just the exposed storage groups that serve the host
abbrev pub AreGroupsOf : MappingRows → List ℕ → Option (BTreeSet (List ℕ)) → Type 0
AreGroupsOf m host groups = (n : List ℕ) → (in_tree name_cmp groups n ≡ true) ↔ IsServed m (host, n)

-- the initiator port and the target port may communicate in the fabric
abbrev pub MayMeet : Records → Port → Port → Fabric → Type 0
MayMeet w p q f = IsTarget w q × IsLoggedInAt f p × Joined (zoning_at w.config f) p q

-- a path of the pair in the fabric to a volume of the group
abbrev pub UnitPath : Fabric → ℕ → ℕ → StorageGroupRows → Path → Type 0
UnitPath f p q g x = (x.fabric ≡ f) × (x.initiator ≡ p) × (x.target ≡ q) × (map.get g.units x.unit ≡ Some x.volume)

-- the same by the group of this name, where it has the target
abbrev pub GroupPath : MappingRows → Fabric → ℕ → ℕ → List ℕ → Path → Type 0
GroupPath m f p q n x = (g : StorageGroupRows) × (map.get m.groups n ≡ Some g) × (set.contains g.targets q ≡ true) × UnitPath f p q g x

-- the group of this name has the target
abbrev pub HasTarget : MappingRows → List ℕ → ℕ → Type 0
HasTarget m n q = (g : StorageGroupRows) × (map.get m.groups n ≡ Some g) × (set.contains g.targets q ≡ true)

-- one of the groups has the target
abbrev pub IsTargeted : MappingRows → BTreeSet (List ℕ) → ℕ → Type 0
IsTargeted m groups q = (n : List ℕ) × IsTrue (contains name_cmp groups n) × HasTarget m n q

-- the path is one from this initiator port
abbrev pub PathFrom : Records → ℕ → Path → Type 0
PathFrom w p x = PathOf w p x.target x

-- only some were added, and this is why
abbrev pub StopsAt : ℕ → (Path → Type 0) → BTreeSet Path → BTreeSet Path → PathsFault → Type 0
StopsAt most Q s t TooMany = AddsOnly Q (Has s) (Has t) × IsOrdered path_cmp t × (most < length t.keys)
StopsAt most Q s t Memory = Unit {0}
