-- Reads that are gathered.
use Rattle.std.specs.Prelude.{ℕ, ◌≡◌, List, ◌++◌, map, true}
use Rattle.std.specs.List.{filter}
use Rattle.std.specs.FinSet as set
use Rattle.fab_reach_base.specs.fab_names.declared.fabric.Fabric.{Fabric}
use Rattle.fab_reach_base.specs.fab_inventory.declared.holder.HolderKind.TheVariants as kind
use Rattle.fab_reach_base.specs.fab_mapping_base.Groups.{StorageGroupRows, MapsVolume}
use Rattle.fab_policy.specs.fab_policy_base.Policies.{PolicyRows}
use Rattle.fab_world.specs.Worlds.{WorldRows}
use Rattle.fab_desk_base.specs.declared.command.Query.{Query}
use Rattle.fab_desk_base.specs.declared.command.Query.TheVariants as query
use Rattle.fab_reach_base.specs.fab_zoning_rows.PortZones.{in_zones}
use Rattle.fab_reach_base.specs.fab_zoning_rows.declared.port_zones.PortZones.{PortZones}
use Rattle.fab_looks.specs.Ways.{ArePortReads, IsOneAtMost, IsOpenQuery, IsOwnPort}

-- more reads, which have P, stand behind those that were there
abbrev pub Appends : (List Query → Type 0) → List Query → List Query → Type 0
Appends P old new = (more : List Query) × P more × (new ≡ old ++ more)

-- the reads that are open to the caller of the host and then of the ports that it holds
abbrev pub AreOfHost : PolicyRows → WorldRows → ℕ → List ℕ → List Query → Type 0
AreOfHost p w id host qs = (hosts ports : List Query) × IsOneAtMost (IsOpenQuery p w id (query.Holder kind.Host host)) hosts × ArePortReads (IsOwnPort p w id host) ports × (qs ≡ hosts ++ ports)

-- the storage group of the entry maps the volume, and it is its read, which is open to the caller
abbrev pub IsMappedQuery : PolicyRows → WorldRows → ℕ → List ℕ → List ℕ × StorageGroupRows → Query → Type 0
IsMappedQuery p w id volume e q = MapsVolume volume e.1 × IsOpenQuery p w id (query.Group e.0) q

-- the port is a target of the storage group of the entry, and it is its read, which is open to the caller
abbrev pub IsTargetedQuery : PolicyRows → WorldRows → ℕ → ℕ → List ℕ × StorageGroupRows → Query → Type 0
IsTargetedQuery p w id a e q = (set.contains e.1.targets a ≡ true) × IsOpenQuery p w id (query.Group e.0) q

-- the reads of those of the zones in which a port is, in the order of the names
abbrev pub zone_reads : {A : Type 0} → PortZones A → Fabric → List (List ℕ) → List Query
zone_reads zones f names = map (λ (z : List ℕ). query.Zone f z) (filter (in_zones zones) names)
