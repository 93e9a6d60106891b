-- What the loops that make an index add. No public contract names anything of this file.
use Rattle.std.specs.Prelude.{ℕ, ◌≡◌, List, Some, true, IsTrue}
use Rattle.std.specs.BTreeSet.{BTreeSet, contains}
use Rattle.std.specs.FinSet as set
use Rattle.fab_inventory.specs.declared.port.Known.{Known}
use Rattle.fab_mapping_base.specs.Groups.{StorageGroupRows}
use Rattle.fab_reach_base.specs.Orders.{Has}
use Rattle.fab_reach_base.specs.declared.path.Path.{Path}
use Rattle.fab_names.specs.declared.fabric.Fabric.{Fabric}
use Rattle.fab_reach_base.specs.Records.{Records}
use Rattle.fab_reach_books.specs.Affected.{IsInZone}
use Rattle.fab_reach_index.specs.Indexes.{Zone, zone_cmp}
use Rattle.fab_reach_books.specs.Pairs.{Pair}

-- the holder of a port, and the port
abbrev pub ByHolder : ℕ × Known → List ℕ × ℕ → Type 0
ByHolder x e = (x.1.holder ≡ Some e.0) × (e.1 ≡ x.0)

-- a host group of a storage group, and the storage group
abbrev pub ByHostGroups : List ℕ × StorageGroupRows → List ℕ × List ℕ → Type 0
ByHostGroups x e = (set.contains x.1.host_groups e.0 ≡ true) × (e.1 ≡ x.0)

-- a target of a storage group, and the storage group
abbrev pub ByTargets : List ℕ × StorageGroupRows → ℕ × List ℕ → Type 0
ByTargets x e = (set.contains x.1.targets e.0 ≡ true) × (e.1 ≡ x.0)

-- the same, if it is exposed
abbrev pub ByExposed : List ℕ × StorageGroupRows → ℕ × List ℕ → Type 0
ByExposed x e = (x.1.exposed ≡ true) × ByTargets x e

-- the pair of a path, and the path
abbrev pub ByPath : BTreeSet Path → Pair × Path → Type 0
ByPath s e = Has s e.1 × (e.0 ≡ (e.1.initiator, e.1.target))

-- the zones of a fabric with P, at the port
abbrev pub ByZones : (List ℕ → Type 0) → ℕ → Fabric → ℕ × Zone → Type 0
ByZones P port f e = P e.1.1 × (e.0 ≡ port) × (e.1.0 ≡ f)

-- the zones that the port is in
abbrev pub ByZone : Records → ℕ → ℕ × Zone → Type 0
ByZone w port e = IsInZone w e.1.0 e.1.1 port × (e.0 ≡ port)

-- a zone of a port, and the port
abbrev pub ByPortZones : ℕ × BTreeSet Zone → Zone × ℕ → Type 0
ByPortZones x e = IsTrue (contains zone_cmp x.1 e.0) × (e.1 ≡ x.0)
