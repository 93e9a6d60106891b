-- Which storage groups share a host with one, by who uses what.
use Rattle.std.specs.Prelude.{ℕ, ◌≡◌, List, Some, true}
use Rattle.std.specs.BTreeSet.{BTreeSet, contains}
use Rattle.std.specs.FinMap as map
use Rattle.std.specs.FinSet as set
use Rattle.fab_reach_base.specs.fab_names.Orders.{name_cmp}
use Rattle.fab_reach_base.specs.fab_mapping_base.Groups.{HostGroupRows, StorageGroupRows}
use Rattle.fab_reach_base.specs.fab_mapping_base.Clashes.{AreAtOdds}
use Rattle.fab_reach_base.specs.fab_mapping.Mappings.{MappingRows}
use Rattle.fab_store_drafts.specs.declared.uses.Used.TheVariants as used
use Rattle.fab_store_drafts.specs.declared.users.Users.{Users}
use Rattle.fab_store_drafts.specs.Users.{IsUse}

-- a host group that has a host of this one
abbrev pub SharesHost : {A : Type 0} → Users A → HostGroupRows → List ℕ → Type 0
SharesHost u hosts k = (h : List ℕ) × (set.contains hosts.hosts h ≡ true) × IsUse u (used.Host h, k)

-- a host group that has a host of the host group of this name
abbrev pub SharesHostOf : {A : Type 0} → MappingRows → Users A → List ℕ → List ℕ → Type 0
SharesHostOf v u m k = (hosts : HostGroupRows) × (map.get v.host_groups m ≡ Some hosts) × SharesHost u hosts k

-- a host group that has a host which the storage group serves
abbrev pub IsNear : {A : Type 0} → MappingRows → Users A → StorageGroupRows → List ℕ → Type 0
IsNear v u g k = (m : List ℕ) × (set.contains g.host_groups m ≡ true) × SharesHostOf v u m k

-- a storage group that serves one of these
abbrev pub ServesOne : {A : Type 0} → Users A → BTreeSet (List ℕ) → List ℕ → Type 0
ServesOne u near n = (k : List ℕ) × (contains name_cmp near k ≡ true) × IsUse u (used.HostGroup k, n)

-- a storage group that serves a host which this one serves
abbrev pub IsBeside : {A : Type 0} → MappingRows → Users A → StorageGroupRows → List ℕ → Type 0
IsBeside v u g n = (k : List ℕ) × IsNear v u g k × IsUse u (used.HostGroup k, n)

-- an exposed storage group of this name is not at odds with this one
abbrev pub IsFine : MappingRows → StorageGroupRows → List ℕ → Type 0
IsFine v g n = (o : StorageGroupRows) → map.get v.groups n ≡ Some o → o.exposed ≡ true → ¬ AreAtOdds g o
