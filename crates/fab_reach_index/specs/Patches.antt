-- How a map of sets goes from one world to the next: some keys get new sets, for which there is room.
use Rattle.std.specs.Prelude.{◌≡◌, ◌↔◌, true, IsSome}
use Rattle.std.specs.declared.cmp.Ordering.{Ordering}
use Rattle.std.specs.BTreeMap.{BTreeMap, get}
use Rattle.std.specs.BTreeSet.{BTreeSet}
use Rattle.std.specs.Ordering.{nat_cmp}
use Rattle.fab_names.specs.Orders.{name_cmp}
use Rattle.fab_lemmas.specs.MapsOfSets.{tree_has}
use Rattle.fab_reach_base.specs.Orders.{path_cmp}
use Rattle.fab_reach_base.specs.Records.{Records}
use Rattle.fab_reach_index.specs.Indexes.{zone_cmp, PortInZone, ZoneHasPort, IsHostServed, IsHeldBy, IsTargetOf, IsHostGroupOf, IsRowOf}
use Rattle.fab_reach_books.specs.Pairs.{pair_cmp}
use Rattle.fab_reach_books.specs.Renewed.{patched}
use Rattle.fab_reach_index.specs.declared.index.Index.{Index}

-- with the new sets the map is what the relation says
abbrev pub LeadsTo : {Q K : Type 0} → (Q → Q → Ordering) → (K → K → Ordering) → (Q → K → Type 0) → BTreeMap Q (BTreeSet K) → BTreeMap Q (BTreeSet K) → Type 0
LeadsTo {Q} {K} O R P new old = (q : Q) (k : K) → (patched O R new old q k ≡ true) ↔ P q k

-- each key of the new sets has a place
abbrev pub HasRoomFor : {Q K L : Type 0} → (Q → Q → Ordering) → BTreeMap Q (BTreeSet K) → BTreeMap Q L → Type 0
HasRoomFor {Q} O new old = (q : Q) → IsSome (get O new q) → IsSome (get O old q)

-- each key has what it had
abbrev pub Keeps : {Q K : Type 0} → (Q → Q → Ordering) → (K → K → Ordering) → BTreeMap Q (BTreeSet K) → BTreeMap Q (BTreeSet K) → Type 0
Keeps {Q} {K} O R old new = (q : Q) (k : K) → tree_has O R new q k ≡ tree_has O R old q k

-- ---- an index

-- with the new sets of the patch the index is one of the world
pub record IsPatchTo {A : Type 0} (v : Records) (patch index : Index A) : Type 0 where
  pub zones : LeadsTo nat_cmp zone_cmp (PortInZone v) patch.zones index.zones
  pub ports : LeadsTo zone_cmp nat_cmp (ZoneHasPort v) patch.ports index.ports
  pub groups : LeadsTo name_cmp name_cmp (IsHostServed v) patch.groups index.groups
  pub held : LeadsTo name_cmp nat_cmp (IsHeldBy v) patch.held index.held
  pub targeted : LeadsTo nat_cmp name_cmp (IsTargetOf v) patch.targeted index.targeted
  pub serving : LeadsTo name_cmp name_cmp (IsHostGroupOf v) patch.serving index.serving
  pub rows : LeadsTo pair_cmp path_cmp (IsRowOf v) patch.rows index.rows

-- each of its keys has a place in the index
pub record HasRoom {A : Type 0} (patch index : Index A) : Type 0 where
  pub zones : HasRoomFor nat_cmp patch.zones index.zones
  pub ports : HasRoomFor zone_cmp patch.ports index.ports
  pub groups : HasRoomFor name_cmp patch.groups index.groups
  pub held : HasRoomFor name_cmp patch.held index.held
  pub targeted : HasRoomFor nat_cmp patch.targeted index.targeted
  pub serving : HasRoomFor name_cmp patch.serving index.serving
  pub rows : HasRoomFor pair_cmp patch.rows index.rows

-- both have the same, place for place
pub record HaveSame {A : Type 0} (old new : Index A) : Type 0 where
  pub zones : Keeps nat_cmp zone_cmp old.zones new.zones
  pub ports : Keeps zone_cmp nat_cmp old.ports new.ports
  pub groups : Keeps name_cmp name_cmp old.groups new.groups
  pub held : Keeps name_cmp nat_cmp old.held new.held
  pub targeted : Keeps nat_cmp name_cmp old.targeted new.targeted
  pub serving : Keeps name_cmp name_cmp old.serving new.serving
  pub rows : Keeps pair_cmp path_cmp old.rows new.rows
