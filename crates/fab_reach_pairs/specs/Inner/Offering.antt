-- What the loops that find pairs say of themselves. No public contract names anything of this file.
use Rattle.std.specs.Prelude.{ℕ, ◌≡◌, List, Some, true, false}
use Rattle.std.specs.BTreeMap.{BTreeMap}
use Rattle.std.specs.BTreeSet.{BTreeSet, contains}
use Rattle.std.specs.Ordering.{nat_cmp}
use Rattle.std.specs.FinMap as map
use Rattle.std.specs.FinSet as set
use Rattle.fab_lemmas.specs.MapsOfSets.{tree_has}
use Rattle.fab_names.specs.Orders.{name_cmp}
use Rattle.fab_names.specs.declared.fabric.Fabric.{Fabric}
use Rattle.fab_inventory.specs.declared.port.Port.{Port}
use Rattle.fab_mapping_base.specs.Groups.{HostGroupRows, StorageGroupRows}
use Rattle.fab_mapping.specs.Mappings.{MappingRows}
use Rattle.fab_zoning_rows.specs.Holding.{IsLoggedInAt}
use Rattle.fab_reach_base.specs.Gathering.{Serves, HasTarget}
use Rattle.fab_reach_base.specs.Records.{Records}
use Rattle.fab_reach_base.specs.Reach.{IsPort}
use Rattle.fab_reach_index.specs.Inner.Holding.{Held, HoldsIn}
use Rattle.fab_reach_books.specs.Inner.Moving.{IsInNone, Offers}

-- a host of the host group holds the port
abbrev pub IsHostPort : Held → HostGroupRows → ℕ → Type 0
IsHostPort held hosts p = (h : List ℕ) × (set.contains hosts.hosts h ≡ true) × HoldsIn held h p

-- a host that the storage group serves holds the port
abbrev pub IsPortServed : MappingRows → Held → StorageGroupRows → ℕ → Type 0
IsPortServed m held g p = (h : List ℕ) × Serves m g h × HoldsIn held h p

-- the same by the storage group of this name
abbrev pub IsPortServedBy : MappingRows → Held → List ℕ → ℕ → Type 0
IsPortServedBy m held n p = (g : StorageGroupRows) × (map.get m.groups n ≡ Some g) × IsPortServed m held g p

-- the same by some storage group that is listed at the target
abbrev pub IsPortServedAt : MappingRows → Held → BTreeMap ℕ (BTreeSet (List ℕ)) → ℕ → ℕ → Type 0
IsPortServedAt m held targeted q p = (n : List ℕ) × (tree_has nat_cmp name_cmp targeted q n ≡ true) × IsPortServedBy m held n p

-- the port is logged in at the fabric, and in none of its zones
abbrev pub IsLoose : Records → Fabric → ℕ → Type 0
IsLoose w f p = ((port : Port) × IsPort w p port × IsLoggedInAt f port) × IsInNone w f p

-- an exposed storage group that is listed at the holder has the target
abbrev pub IsTargetAt : MappingRows → BTreeMap (List ℕ) (BTreeSet (List ℕ)) → List ℕ → ℕ → Type 0
IsTargetAt m served h q = (n : List ℕ) × (tree_has name_cmp name_cmp served h n ≡ true) × HasTarget m n q

-- the same by one that is not among these
abbrev pub IsKeptAt : MappingRows → BTreeMap (List ℕ) (BTreeSet (List ℕ)) → BTreeSet (List ℕ) → List ℕ → ℕ → Type 0
IsKeptAt m served touched h q = (n : List ℕ) × (tree_has name_cmp name_cmp served h n ≡ true) × (contains name_cmp touched n ≡ false) × HasTarget m n q

-- a storage group that is not among these offers the pair
abbrev pub IsOfferedByKept : Records → BTreeSet (List ℕ) → ℕ → ℕ → Type 0
IsOfferedByKept v touched p q = (n : List ℕ) × (g : StorageGroupRows) × (contains name_cmp touched n ≡ false) × Offers v n p q g
