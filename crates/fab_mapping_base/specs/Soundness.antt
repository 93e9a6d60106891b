-- Which host groups and storage groups are sound.
use Rattle.std.specs.Prelude.{ℕ, ◌≡◌, ◌<◌, ◌≤◌, List, Some, IsSome, true}
use Rattle.std.specs.FinMap as map
use Rattle.std.specs.FinSet as set
use Rattle.fab_mapping_base.specs.Limits.{most_hosts, most_groups_served, most_targets, most_units, last_unit}
use Rattle.fab_mapping_base.specs.Groups.{HostGroupRows, StorageGroupRows}
use Rattle.fab_mapping_base.specs.Clashes.{HostGroups}

-- a sound host group: it has 1 to 255 hosts (`most_hosts`)
pub record IsSoundHostGroup (g : HostGroupRows) : Type 0 where
  pub some_host : 0 < set.len g.hosts
  pub few_hosts : set.len g.hosts ≤ most_hosts

-- a storage group has no more parts than it may have
pub record HasFewParts (g : StorageGroupRows) : Type 0 where
  pub few_host_groups : set.len g.host_groups ≤ most_groups_served
  pub few_targets : set.len g.targets ≤ most_targets
  pub few_units : map.len g.units ≤ most_units

-- it maps nothing above the last logical unit number
abbrev pub HasUnitNumbers : StorageGroupRows → Type 0
HasUnitNumbers g = (u : ℕ) (volume : List ℕ) → map.get g.units u ≡ Some volume → u ≤ last_unit

-- each host group that it names is there
abbrev pub HasKnownHosts : HostGroups → StorageGroupRows → Type 0
HasKnownHosts host_groups g = (k : List ℕ) → set.contains g.host_groups k ≡ true → IsSome (host_groups k)

-- a sound storage group beside these host groups
pub record IsSoundGroup (host_groups : HostGroups) (g : StorageGroupRows) : Type 0 where
  pub parts : HasFewParts g
  pub numbers : HasUnitNumbers g
  pub known : HasKnownHosts host_groups g
