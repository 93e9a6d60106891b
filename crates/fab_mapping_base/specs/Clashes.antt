-- Which volumes hosts meet, and where one meets two.
use Rattle.std.specs.Prelude.{ℕ, ◌≡◌, ◌≢◌, List, Option, Some, true, false}
use Rattle.std.specs.Ordering.{is_gt}
use Rattle.std.specs.FinMap as map
use Rattle.std.specs.FinSet as set
use Rattle.fab_mapping_base.specs.declared.nexus.Nexus.{Nexus}
use Rattle.fab_mapping_base.specs.Groups.{HostGroupRows, StorageGroupRows}
use Rattle.fab_mapping_base.specs.Nexuses.{Claim, nexus_cmp}

-- the host groups by name
abbrev pub HostGroups : Type 0
HostGroups = List ℕ → Option HostGroupRows

-- the storage groups by name
abbrev pub StorageGroups : Type 0
StorageGroups = List ℕ → Option StorageGroupRows

-- a host of the host group, a target of the group, and a volume of the group at its unit
abbrev pub HostClaims : HostGroupRows → StorageGroupRows → Claim → Type 0
HostClaims hosts g c = (set.contains hosts.hosts c.0.host ≡ true) × (set.contains g.targets c.0.target ≡ true) × (map.get g.units c.0.unit ≡ Some c.1)

-- the storage group, by one of its host groups, maps the volume at the nexus
abbrev pub GroupClaims : HostGroups → StorageGroupRows → Claim → Type 0
GroupClaims host_groups g c = (k : List ℕ) × (hosts : HostGroupRows) × (set.contains g.host_groups k ≡ true) × (host_groups k ≡ Some hosts) × HostClaims hosts g c

-- some target is one of both storage groups, and at some unit both map a volume, and not the same one: a
-- host that both serve meets two volumes there
pub record AreAtOdds (a b : StorageGroupRows) : Type 0 where
  pub target : (q : ℕ) × (set.contains a.targets q ≡ true) × (set.contains b.targets q ≡ true)
  pub unit : (u : ℕ) × (v : List ℕ) × (map.get a.units u ≡ Some v) × (w : List ℕ) × (map.get b.units u ≡ Some w) × (v ≢ w)

-- the storage group is one of those that are exposed
abbrev pub IsExposed : StorageGroups → StorageGroupRows → Type 0
IsExposed groups g = (n : List ℕ) × (groups n ≡ Some g) × (g.exposed ≡ true)

-- some exposed storage group maps the volume at the nexus
abbrev pub Maps : HostGroups → StorageGroups → Claim → Type 0
Maps host_groups groups c = (n : List ℕ) × (g : StorageGroupRows) × (groups n ≡ Some g) × (g.exposed ≡ true) × GroupClaims host_groups g c

-- a host would meet two volumes at one target under one unit
abbrev pub ClashesIn : (Claim → Type 0) → Nexus → Type 0
ClashesIn maps n = (x y : List ℕ) × maps (n, x) × maps (n, y) × (x ≢ y)

-- the least nexus where two volumes would be met
abbrev pub IsLeastClashIn : (Claim → Type 0) → Nexus → Type 0
IsLeastClashIn maps n = ClashesIn maps n × ((m : Nexus) → ClashesIn maps m → is_gt (nexus_cmp n m) ≡ false)

-- two volumes are met nowhere
abbrev pub HasNoClashIn : (Claim → Type 0) → Type 0
HasNoClashIn maps = (n : Nexus) → ¬ ClashesIn maps n
