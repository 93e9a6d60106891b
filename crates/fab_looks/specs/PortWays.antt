-- The things around a port that a caller may read of.
use Rattle.std.specs.Prelude.{ℕ, ◌≡◌, ◌⊎◌, List, ◌++◌, map, Some, true}
use Rattle.std.specs.List.{AllZip}
use Rattle.std.specs.FinMap as fin
use Rattle.std.specs.FinSet as set
use Rattle.fab_reach_base.specs.fab_lemmas.Lists.{IsListOf}
use Rattle.fab_reach_base.specs.fab_names.Orders.{name_cmp}
use Rattle.fab_reach_base.specs.fab_names.declared.fabric.Fabric.{Fabric}
use Rattle.fab_reach_base.specs.fab_names.declared.fabric.Fabric.TheVariants as fabric
use Rattle.fab_reach_base.specs.fab_inventory.declared.holder.Holder.{Holder}
use Rattle.fab_reach_base.specs.fab_inventory.declared.port.Port.{Port}
use Rattle.fab_reach_base.specs.fab_mapping_base.Groups.{StorageGroupRows}
use Rattle.fab_policy.specs.fab_policy_base.Policies.{PolicyRows}
use Rattle.fab_reach_base.specs.Reach.{IsPort}
use Rattle.fab_reach_base.specs.Records.{zoning_at}
use Rattle.fab_world.specs.Worlds.{WorldRows, records_of}
use Rattle.fab_reach_base.specs.fab_zoning_rows.Holding.{Holds, IsLoggedInAt}
use Rattle.fab_desk_base.specs.Showing.{IsOpenTo, Shows}
use Rattle.fab_desk_base.specs.declared.command.Query.{Query}
use Rattle.fab_desk_base.specs.declared.command.Query.TheVariants as query
use Rattle.fab_desk_base.specs.declared.reply.Shown.{Shown}
use Rattle.fab_looks.specs.Ways.{AreGroupReads, IsOneAtMost, IsOpenQuery}

-- ---- which reads there are

-- the port is known and logged in at the fabric, and an active row of the zone there holds it
abbrev pub IsActiveIn : WorldRows → ℕ → Fabric → List ℕ → Type 0
IsActiveIn w a f z = (x : Port) × IsPort (records_of w) a x × IsLoggedInAt f x × Holds (zoning_at w.config f).rows x z

-- and the read of the zone is open to the caller
abbrev pub IsOwnZone : PolicyRows → WorldRows → ℕ → ℕ → Fabric → List ℕ → Type 0
IsOwnZone p w id a f z = IsActiveIn w a f z × IsOpenTo p w id (query.Zone f z)

-- it is the read of the host or the array that holds the port, which is open to the caller
abbrev pub HolderQuery : PolicyRows → WorldRows → ℕ → ℕ → Query → Type 0
HolderQuery p w id a q = (x : Port) × (h : List ℕ) × (y : Holder) × IsPort (records_of w) a x × (x.holder ≡ Some h) × (fin.get w.inventory.holders h ≡ Some y) × IsOpenQuery p w id (query.Holder y.kind h) q

-- the port is a target of a storage group of this name, and its read is open to the caller
abbrev pub IsOwnTarget : PolicyRows → WorldRows → ℕ → ℕ → List ℕ → Type 0
IsOwnTarget p w id a n = (g : StorageGroupRows) × (fin.get w.config.mapping.groups n ≡ Some g) × (set.contains g.targets a ≡ true) × IsOpenTo p w id (query.Group n)

-- ---- in which order

-- the reads of just the zones with P, each once: those at fabric A in order, then those at fabric B
abbrev pub AreZoneReads : (Fabric → List ℕ → Type 0) → List Query → Type 0
AreZoneReads P qs = (at_a at_b : List (List ℕ)) × IsListOf name_cmp (P fabric.A) at_a × IsListOf name_cmp (P fabric.B) at_b × (qs ≡ map (λ (z : List ℕ). query.Zone fabric.A z) at_a ++ map (λ (z : List ℕ). query.Zone fabric.B z) at_b)

-- the reads that are open to the caller of the port, of its holder, of its active zones, and of the storage
-- groups of which it is a target, in this order, and nothing else
pub record AreOfPort (p : PolicyRows) (w : WorldRows) (id : ℕ) (a : ℕ) (qs : List Query) : Type 0 where
  pub ports : List Query
  pub holders : List Query
  pub zones : List Query
  pub groups : List Query
  pub port_is : IsOneAtMost (IsOpenQuery p w id (query.Port a)) ports
  pub holder_is : IsOneAtMost (HolderQuery p w id a) holders
  pub zones_are : AreZoneReads (IsOwnZone p w id a) zones
  pub groups_are : AreGroupReads (IsOwnTarget p w id a) groups
  pub in_order : qs ≡ ports ++ holders ++ zones ++ groups

-- and what each shows
abbrev pub ArePortWay : {A : Type 0} → PolicyRows → WorldRows → ℕ → ℕ → List (Shown A) → Type 0
ArePortWay p w id a rows = (qs : List Query) × AreOfPort p w id a qs × AllZip (Shows w) qs rows

-- ---- one of them

-- it is the read of a zone in which the port is active, which is open to the caller
abbrev pub ZoneQuery : PolicyRows → WorldRows → ℕ → ℕ → Query → Type 0
ZoneQuery p w id a q = (f : Fabric) × (z : List ℕ) × IsActiveIn w a f z × IsOpenQuery p w id (query.Zone f z) q

-- it is the read of a storage group of which the port is a target, which is open to the caller
abbrev pub TargetedQuery : PolicyRows → WorldRows → ℕ → ℕ → Query → Type 0
TargetedQuery p w id a q = (n : List ℕ) × (g : StorageGroupRows) × (fin.get w.config.mapping.groups n ≡ Some g) × (set.contains g.targets a ≡ true) × IsOpenQuery p w id (query.Group n) q

-- it is one of the reads around the port
abbrev pub IsOfPort : PolicyRows → WorldRows → ℕ → ℕ → Query → Type 0
IsOfPort p w id a q = IsOpenQuery p w id (query.Port a) q ⊎ (HolderQuery p w id a q ⊎ (ZoneQuery p w id a q ⊎ TargetedQuery p w id a q))
