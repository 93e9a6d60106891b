-- Storage groups by which no host meets two volumes at one nexus.
use Rattle.std.specs.Prelude.{ℕ, ◌≡◌, List, Some, true}
use Rattle.std.specs.FinMap as map
use Rattle.std.specs.FinSet as set
use Rattle.fab_mapping_base.specs.Clashes.{GroupClaims}
use Rattle.fab_mapping_base.specs.Groups.{HostGroupRows, StorageGroupRows}
use Rattle.fab_mapping_base.specs.declared.nexus.Nexus.{Nexus}
use Rattle.fab_mapping.specs.Mappings.{MappingRows}

-- no host is in both host groups
abbrev pub HaveNoHost : HostGroupRows → HostGroupRows → Type 0
HaveNoHost g h = (n : List ℕ) → set.contains g.hosts n ≡ true → ¬ (set.contains h.hosts n ≡ true)

-- no host of the host group is in the one of this name
abbrev pub HasNoneOf : MappingRows → HostGroupRows → List ℕ → Type 0
HasNoneOf v g m = (h : HostGroupRows) → map.get v.host_groups m ≡ Some h → HaveNoHost g h

-- the storage group serves no host of the host group
abbrev pub ServesNone : MappingRows → StorageGroupRows → HostGroupRows → Type 0
ServesNone v b g = (m : List ℕ) → set.contains b.host_groups m ≡ true → HasNoneOf v g m

-- nor one of the host group of this name
abbrev pub ServesNoneOf : MappingRows → StorageGroupRows → List ℕ → Type 0
ServesNoneOf v b k = (g : HostGroupRows) → map.get v.host_groups k ≡ Some g → ServesNone v b g

-- no host is served by both storage groups
abbrev pub ServeNone : MappingRows → StorageGroupRows → StorageGroupRows → Type 0
ServeNone v a b = (k : List ℕ) → set.contains a.host_groups k ≡ true → ServesNoneOf v b k

-- where the other storage group is exposed, both map one volume at a nexus
abbrev pub AreClear : MappingRows → StorageGroupRows → StorageGroupRows → Type 0
AreClear v a b = b.exposed ≡ true → (x : Nexus) (m n : List ℕ) → GroupClaims (map.get v.host_groups) a (x, m) → GroupClaims (map.get v.host_groups) b (x, n) → m ≡ n
