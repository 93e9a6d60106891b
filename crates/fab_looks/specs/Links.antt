-- The links between a host and a volume, in their order, and the first that is missing.
use Rattle.std.specs.Prelude.{ℕ, ◌≡◌, List, Some, IsSome, true}
use Rattle.std.specs.FinMap as map
use Rattle.std.specs.FinSet as set
use Rattle.fab_names.specs.declared.fabric.Fabric.{Fabric}
use Rattle.fab_inventory.specs.declared.port.Port.{Port}
use Rattle.fab_inventory.specs.Inventories.{IsHost}
use Rattle.fab_zoning_rows.specs.Holding.{IsLoggedInAt}
use Rattle.fab_zoning.specs.Joins.{Joined}
use Rattle.fab_mapping_base.specs.Groups.{StorageGroupRows, MapsVolume}
use Rattle.fab_mapping.specs.Mappings.{MappingRows}
use Rattle.fab_reach_base.specs.Records.{Records, zoning_at}
use Rattle.fab_reach_base.specs.Gathering.{Serves}
use Rattle.fab_reach_base.specs.Reach.{IsPort, IsInitiator, IsTarget, ReachesFrom}
use Rattle.fab_reach_base.specs.Orders.{IsListOf}
use Rattle.fab_reach_base.specs.declared.path.Path.{Path}
use Rattle.fab_looks.specs.declared.link.Link.{Link}
use Rattle.fab_looks.specs.declared.link.Link.TheVariants as link
use Rattle.fab_looks.specs.declared.explaining.Why.{Why}
use Rattle.fab_looks.specs.declared.explaining.Why.TheVariants as why

-- ---- the ends

-- the port is one of the host's, and logged in at the fabric
pub record IsLogin (w : Records) (host : List ℕ) (f : Fabric) (p : Port) : Type 0 where
  pub known : IsPort w p.name p
  pub from : IsInitiator w p host
  pub here : IsLoggedInAt f p

-- one of the host's ports is logged in
abbrev pub HasLogin : Records → List ℕ → Type 0
HasLogin w host = (f : Fabric) × (p : Port) × IsLogin w host f p

-- and the volume is known
abbrev pub AreKnown : Records → List ℕ → List ℕ → Type 0
AreKnown w host volume = HasLogin w host × IsSome (map.get w.inventory.volumes volume)

-- ---- the storage group between them

-- the storage group is there, under some name
abbrev pub IsGroup : MappingRows → StorageGroupRows → Type 0
IsGroup m g = (n : List ℕ) × (map.get m.groups n ≡ Some g)

-- the storage group maps the volume
abbrev pub IsMappedBy : MappingRows → List ℕ → StorageGroupRows → Type 0
IsMappedBy m volume g = IsGroup m g × MapsVolume volume g

-- and serves the host
abbrev pub IsServedBy : MappingRows → List ℕ → List ℕ → StorageGroupRows → Type 0
IsServedBy m host volume g = IsMappedBy m volume g × Serves m g host

-- and is exposed
abbrev pub IsExposedBy : MappingRows → List ℕ → List ℕ → StorageGroupRows → Type 0
IsExposedBy m host volume g = IsServedBy m host volume g × (g.exposed ≡ true)

-- and has a target q that is logged in at the fabric, as the host's port p is
pub record AreMet (w : Records) (host volume : List ℕ) (g : StorageGroupRows) (f : Fabric) (p q : Port) : Type 0 where
  pub group : IsExposedBy w.config.mapping host volume g
  pub from : IsLogin w host f p
  pub target : set.contains g.targets q.name ≡ true
  pub known : IsPort w q.name q
  pub to : IsTarget w q
  pub there : IsLoggedInAt f q

-- and the two may communicate there
pub record AreJoined (w : Records) (host volume : List ℕ) (g : StorageGroupRows) (f : Fabric) (p q : Port) : Type 0 where
  pub met : AreMet w host volume g f p q
  pub joined : Joined (zoning_at w.config f) p q

-- ---- the links

-- all links to this one are there, by one storage group and one pair of ports
abbrev pub Holds : Records → List ℕ → List ℕ → Link → Type 0
Holds w host volume link.Host = IsHost w.inventory.holders host
Holds w host volume link.Login = HasLogin w host
Holds w host volume link.Volume = AreKnown w host volume
Holds w host volume link.Mapped = AreKnown w host volume × ((g : StorageGroupRows) × IsMappedBy w.config.mapping volume g)
Holds w host volume link.Served = AreKnown w host volume × ((g : StorageGroupRows) × IsServedBy w.config.mapping host volume g)
Holds w host volume link.Exposed = AreKnown w host volume × ((g : StorageGroupRows) × IsExposedBy w.config.mapping host volume g)
Holds w host volume link.Met = AreKnown w host volume × ((g : StorageGroupRows) × (f : Fabric) × (p q : Port) × AreMet w host volume g f p q)
Holds w host volume link.Joined = AreKnown w host volume × ((g : StorageGroupRows) × (f : Fabric) × (p q : Port) × AreJoined w host volume g f p q)

-- all links before this one are there
abbrev pub HoldsBefore : Records → List ℕ → List ℕ → Link → Type 0
HoldsBefore w host volume link.Host = Unit {0}
HoldsBefore w host volume link.Login = Holds w host volume link.Host
HoldsBefore w host volume link.Volume = Holds w host volume link.Login
HoldsBefore w host volume link.Mapped = Holds w host volume link.Volume
HoldsBefore w host volume link.Served = Holds w host volume link.Mapped
HoldsBefore w host volume link.Exposed = Holds w host volume link.Served
HoldsBefore w host volume link.Met = Holds w host volume link.Exposed
HoldsBefore w host volume link.Joined = Holds w host volume link.Met

-- the link is the first that is missing: all before it are there, and they do not go on to it
abbrev pub IsMissing : Records → List ℕ → List ℕ → Link → Type 0
IsMissing w host volume l = HoldsBefore w host volume l × ¬ Holds w host volume l

-- ---- what is answered

-- the path is there, from the host to the volume
abbrev pub PathTo : Records → List ℕ → List ℕ → Path → Type 0
PathTo w host volume x = ReachesFrom w host x × (x.volume ≡ volume)

-- the host reaches the volume: some path is there
abbrev pub IsReached : Records → List ℕ → List ℕ → Type 0
IsReached w host volume = (x : Path) × PathTo w host volume x

-- all links are there, and these are the paths, in order; or just the first missing link
abbrev pub IsExplained : {A : Type 0} → Records → List ℕ → List ℕ → Why A → Type 0
IsExplained w host volume (why.Reaches xs) = Holds w host volume link.Joined × IsListOf (PathTo w host volume) xs.items
IsExplained w host volume (why.Missing l) = IsMissing w host volume l
