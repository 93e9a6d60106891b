-- Which pairs a change may touch: the pairs that it affects.
use Rattle.std.specs.Prelude.{ℕ, ◌≡◌, ◌↔◌, ◌⊎◌, List, Some, true}
use Rattle.std.specs.FinMap as map
use Rattle.std.specs.FinSet as set
use Rattle.fab_names.specs.declared.fabric.Fabric.{Fabric}
use Rattle.fab_inventory.specs.declared.port.Port.{Port}
use Rattle.fab_inventory.specs.Ports.{port_at}
use Rattle.fab_inventory.specs.Holders.{holder_in}
use Rattle.fab_zoning_rows.specs.Holding.{IsLoggedInAt}
use Rattle.fab_zoning.specs.Joins.{InZone}
use Rattle.fab_mapping_base.specs.Groups.{StorageGroupRows}
use Rattle.fab_reach_base.specs.Records.{Records, zoning_at}
use Rattle.fab_reach_base.specs.Reach.{IsPort, IsInitiator, IsTarget, PathOf}
use Rattle.fab_reach_base.specs.Gathering.{Serves}
use Rattle.fab_reach_base.specs.declared.path.Path.{Path}

-- p is a port of a host, and q one of an array
abbrev pub IsPair : Records → ℕ → ℕ → Type 0
IsPair w p q = (from to : Port) × IsPort w p from × IsPort w q to × ((host : List ℕ) × IsInitiator w from host) × IsTarget w to

-- ---- what may be the same in both worlds

-- the row of the port
abbrev pub HasSameRow : Records → Records → ℕ → Type 0
HasSameRow w v p = port_at w.inventory.ports p ≡ port_at v.inventory.ports p

-- the port is in the zone of the fabric's active set
abbrev pub IsInZone : Records → Fabric → List ℕ → ℕ → Type 0
IsInZone w f z p = (port : Port) × IsPort w p port × InZone (zoning_at w.config f) port z

-- the zones that the port is in
abbrev pub HasSameZones : Records → Records → ℕ → Type 0
HasSameZones w v p = (f : Fabric) (z : List ℕ) → IsInZone w f z p ↔ IsInZone v f z p

-- both ports are logged in at the fabric
abbrev pub AreAt : Records → Fabric → ℕ → ℕ → Type 0
AreAt w f p q = (from to : Port) × IsPort w p from × IsPort w q to × IsLoggedInAt f from × IsLoggedInAt f to

-- what the default zone of the fabric permits
abbrev pub HasSameFlag : Records → Records → Fabric → Type 0
HasSameFlag w v f = (zoning_at w.config f).flag ≡ (zoning_at v.config f).flag

-- the storage group of this name, g, has p among its hosts' ports and q among its targets
pub record HasPair (w : Records) (n : List ℕ) (g : StorageGroupRows) (p q : ℕ) : Type 0 where
  pub there : map.get w.config.mapping.groups n ≡ Some g
  pub host : List ℕ
  pub held : holder_in (map.get w.inventory.ports) p ≡ Some host
  pub serves : Serves w.config.mapping g host
  pub target : set.contains g.targets q ≡ true

-- some storage group of this name has the pair
abbrev pub IsHad : Records → List ℕ → ℕ → ℕ → Type 0
IsHad w n p q = (g : StorageGroupRows) × HasPair w n g p q

-- the storage groups of this name have the pair in both worlds, are exposed alike, and have the same units
pub record IsOfferedAlike (w v : Records) (n : List ℕ) (p q : ℕ) : Type 0 where
  pub one : StorageGroupRows
  pub other : StorageGroupRows
  pub here : HasPair w n one p q
  pub there : HasPair v n other p q
  pub exposed : one.exposed ≡ other.exposed
  pub units : one.units ≡ other.units

-- ---- the pairs

-- nothing differs that the paths of the pair may follow from
pub record IsUntouched (w v : Records) (p q : ℕ) : Type 0 where
  pub row_from : HasSameRow w v p
  pub row_to : HasSameRow w v q
  pub zones_from : HasSameZones w v p
  pub zones_to : HasSameZones w v q
  pub flags : (f : Fabric) → AreAt w f p q ⊎ AreAt v f p q → HasSameFlag w v f
  pub groups : (n : List ℕ) → IsHad w n p q ⊎ IsHad v n p q → IsOfferedAlike w v n p q

-- the pair is affected: it is one of a host and an array in one of the worlds, and the row of a port or
-- its zones differ; or the flag of a fabric where both are logged in; or, for some name, whether the
-- storage group has the pair, is exposed, or its units, where it has the pair in one of the worlds
abbrev pub Affected : Records → Records → ℕ → ℕ → Type 0
Affected w v p q = (IsPair w p q ⊎ IsPair v p q) × ¬ IsUntouched w v p q

-- the pair has a path in w and not in v
abbrev pub LosesOf : Records → Records → ℕ → ℕ → Path → Type 0
LosesOf w v p q x = PathOf w p q x × ¬ PathOf v p q x

-- the paths of the pair differ
abbrev pub PathsDiffer : Records → Records → ℕ → ℕ → Type 0
PathsDiffer w v p q = (x : Path) × (LosesOf w v p q x ⊎ LosesOf v w p q x)
