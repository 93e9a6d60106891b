-- What an index of a world holds.
use Rattle.std.specs.Prelude.{ℕ, ◌≡◌, ◌↔◌, List, Some, true}
use Rattle.std.specs.declared.cmp.Ordering.{Ordering}
use Rattle.std.specs.Ordering.{nat_cmp, then_cmp, on}
use Rattle.std.specs.FinMap as map
use Rattle.std.specs.FinSet as set
use Rattle.std.specs.BTreeMap.{BTreeMap}
use Rattle.std.specs.BTreeSet.{BTreeSet}
use Rattle.fab_names.specs.declared.fabric.Fabric.{Fabric}
use Rattle.fab_names.specs.declared.member.Member.{Member}
use Rattle.fab_names.specs.Orders.{name_cmp, fabric_cmp, member_cmp}
use Rattle.fab_inventory.specs.Holders.{holder_in}
use Rattle.fab_lemmas.specs.MapsOfSets.{tree_has}
use Rattle.fab_mapping_base.specs.Groups.{StorageGroupRows}
use Rattle.fab_reach_base.specs.Records.{Records}
use Rattle.fab_reach_base.specs.Orders.{path_cmp}
use Rattle.fab_reach_base.specs.Reach.{PathOf}
use Rattle.fab_reach_base.specs.Gathering.{IsServed}
use Rattle.fab_reach_base.specs.declared.path.Path.{Path}
use Rattle.fab_reach_books.specs.Affected.{IsInZone}
use Rattle.fab_reach_books.specs.Pairs.{Pair, pair_cmp}
use Rattle.fab_reach_index.specs.declared.index.Index.{Index}

-- a zone of a fabric
abbrev pub Zone : Type 0
Zone = Fabric × List ℕ

abbrev pub zone_cmp : Zone → Zone → Ordering
zone_cmp = then_cmp (on (λ z. z.0) fabric_cmp) (on (λ z. z.1) name_cmp)

-- a member in a fabric
abbrev pub MemberAt : Type 0
MemberAt = Fabric × Member

abbrev pub member_at_cmp : MemberAt → MemberAt → Ordering
member_at_cmp = then_cmp (on (λ m. m.0) fabric_cmp) (on (λ m. m.1) member_cmp)

-- the sets of a tree are just what the relation says of each key
abbrev pub IsTreeOf : {Q K : Type 0} → (Q → Q → Ordering) → (K → K → Ordering) → (Q → K → Type 0) → BTreeMap Q (BTreeSet K) → Type 0
IsTreeOf {Q} {K} O R P t = (q : Q) (k : K) → (tree_has O R t q k ≡ true) ↔ P q k

-- ---- what each map says

-- the port is in the zone
abbrev pub PortInZone : Records → ℕ → Zone → Type 0
PortInZone w p z = IsInZone w z.0 z.1 p

-- the zone has the port
abbrev pub ZoneHasPort : Records → Zone → ℕ → Type 0
ZoneHasPort w z p = IsInZone w z.0 z.1 p

-- an exposed storage group of this name serves the host
abbrev pub IsHostServed : Records → List ℕ → List ℕ → Type 0
IsHostServed w host n = IsServed w.config.mapping (host, n)

-- the holder holds the port
abbrev pub IsHeldBy : Records → List ℕ → ℕ → Type 0
IsHeldBy w h p = holder_in (map.get w.inventory.ports) p ≡ Some h

-- an exposed storage group of this name has the target
abbrev pub IsTargetOf : Records → ℕ → List ℕ → Type 0
IsTargetOf w q n = (g : StorageGroupRows) × (map.get w.config.mapping.groups n ≡ Some g) × (g.exposed ≡ true) × (set.contains g.targets q ≡ true)

-- the storage group of this name, exposed or hidden, has the host group
abbrev pub IsHostGroupOf : Records → List ℕ → List ℕ → Type 0
IsHostGroupOf w k n = (g : StorageGroupRows) × (map.get w.config.mapping.groups n ≡ Some g) × (set.contains g.host_groups k ≡ true)

-- a path of the pair
abbrev pub IsRowOf : Records → Pair → Path → Type 0
IsRowOf w e x = PathOf w e.0 e.1 x

-- the zones of each port, the ports of each zone, the exposed storage groups of each host and of each
-- target, the ports of each holder, the storage groups of each host group, and the paths of each pair
-- are those of the world
pub record IsIndexOf {A : Type 0} (w : Records) (m : Index A) : Type 0 where
  pub zones : IsTreeOf nat_cmp zone_cmp (PortInZone w) m.zones
  pub ports : IsTreeOf zone_cmp nat_cmp (ZoneHasPort w) m.ports
  pub groups : IsTreeOf name_cmp name_cmp (IsHostServed w) m.groups
  pub held : IsTreeOf name_cmp nat_cmp (IsHeldBy w) m.held
  pub targeted : IsTreeOf nat_cmp name_cmp (IsTargetOf w) m.targeted
  pub serving : IsTreeOf name_cmp name_cmp (IsHostGroupOf w) m.serving
  pub rows : IsTreeOf pair_cmp path_cmp (IsRowOf w) m.rows
