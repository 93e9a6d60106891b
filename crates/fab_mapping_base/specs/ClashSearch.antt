-- Relations of the private loops that search for a clash.
use Rattle.std.specs.Prelude.{ℕ, ◌≡◌, ◌≢◌, ◌<◌, ◌+◌, ◌*◌, List, slice_get, Option, Some, Bool, true}
use Rattle.std.specs.Ordering.{nat_cmp}
use Rattle.std.specs.BTreeMap.{BTreeMap}
use Rattle.std.specs.BTreeSet.{BTreeSet}
use Rattle.std.specs.FinMap as map
use Rattle.std.specs.FinSet as set
use Rattle.fab_inventory.specs.fab_lemmas.Firsts.{IsFirstOf}
use Rattle.fab_inventory.specs.fab_lemmas.MapsOfSets.{tree_has}
use Rattle.fab_inventory.specs.fab_names.Orders.{name_cmp}
use Rattle.fab_mapping_base.specs.Limits.{most_storage_groups}
use Rattle.fab_mapping_base.specs.declared.nexus.Nexus.{Nexus}
use Rattle.fab_mapping_base.specs.Groups.{HostGroupRows, StorageGroupRows}
use Rattle.fab_mapping_base.specs.Nexuses.{nexus_cmp}
use Rattle.fab_mapping_base.specs.Clashes.{HostGroups}

-- ---- two storage groups

-- the target is one of both groups
abbrev pub IsShared : StorageGroupRows → StorageGroupRows → ℕ → Type 0
IsShared a b q = (set.contains a.targets q ≡ true) × (set.contains b.targets q ≡ true)

-- the group maps another volume at the unit
abbrev pub MapsOther : StorageGroupRows → ℕ → List ℕ → Type 0
MapsOther b u v = (w : List ℕ) × (map.get b.units u ≡ Some w) × (v ≢ w)

-- both groups map a volume at the unit, and not the same
abbrev pub IsUnlike : StorageGroupRows → StorageGroupRows → ℕ → Type 0
IsUnlike a b u = (v : List ℕ) × (map.get a.units u ≡ Some v) × MapsOther b u v

-- a host meets two volumes at the nexus, if both groups serve it
pub record MeetsTwo (at : List ℕ) (a b : StorageGroupRows) (n : Nexus) : Type 0 where
  pub host : n.host ≡ at
  pub target : IsShared a b n.target
  pub unit : IsUnlike a b n.unit

-- ---- the least nexus so far

-- the least nexus with P, or none has it
abbrev pub IsLeastOf : (Nexus → Type 0) → Option Nexus → Type 0
IsLeastOf = IsFirstOf nexus_cmp

-- ---- storage groups by their places in a list

-- the storage groups at the two places let the host meet two volumes
abbrev pub MeetsAt : List StorageGroupRows → List ℕ → ℕ → ℕ → Nexus → Type 0
MeetsAt gs host i j n = (a b : StorageGroupRows) × (slice_get gs i ≡ Some a) × (slice_get gs j ≡ Some b) × MeetsTwo host a b n

-- the pair of places is marked
pub record IsKnown (marks : List Bool) (i j : ℕ) : Type 0 where
  pub first : i < most_storage_groups
  pub second : j < most_storage_groups
  pub mark : slice_get marks (i * most_storage_groups + j) ≡ Some true

-- no host would meet two volumes by a pair that is marked
abbrev pub AreFine : List StorageGroupRows → List Bool → Type 0
AreFine gs marks = (i j : ℕ) → IsKnown marks i j → (host : List ℕ) (n : Nexus) → ¬ MeetsAt gs host i j n

-- the host group has the host
abbrev pub HasHost : HostGroups → List ℕ → List ℕ → Type 0
HasHost host_groups k host = (hosts : HostGroupRows) × (host_groups k ≡ Some hosts) × (set.contains hosts.hosts host ≡ true)

-- the storage group serves the host
abbrev pub ServesHost : HostGroups → StorageGroupRows → List ℕ → Type 0
ServesHost host_groups g host = (k : List ℕ) × (set.contains g.host_groups k ≡ true) × HasHost host_groups k host

-- a host, and the place of a storage group
abbrev pub Service : Type 0
Service = List ℕ × ℕ

-- the places of the storage groups that serve each host
abbrev pub Index : Type 0
Index = BTreeMap (List ℕ) (BTreeSet ℕ)

-- whether the index has the place at the host
abbrev pub lists : Index → Service → Bool
lists t e = tree_has name_cmp nat_cmp t e.0 e.1

-- the storage group at the place serves the host
abbrev pub ServesAt : HostGroups → List StorageGroupRows → Service → Type 0
ServesAt host_groups gs e = (g : StorageGroupRows) × (slice_get gs e.1 ≡ Some g) × ServesHost host_groups g e.0

-- two storage groups that the index has at its host let it meet two volumes at the nexus
abbrev pub MeetsIn : Index → List StorageGroupRows → Nexus → Type 0
MeetsIn t gs n = (i j : ℕ) × (lists t (n.host, i) ≡ true) × (lists t (n.host, j) ≡ true) × MeetsAt gs n.host i j n
