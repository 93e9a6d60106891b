-- Which paths there are: reachability, pair by pair.
use Rattle.std.specs.Prelude.{ℕ, ◌≡◌, List, Some, true}
use Rattle.std.specs.FinMap as map
use Rattle.std.specs.FinSet as set
use Rattle.fab_mapping.specs.fab_mapping_base.fab_names.declared.fabric.Fabric.{Fabric}
use Rattle.fab_mapping.specs.fab_mapping_base.fab_inventory.declared.port.Port.{Port}
use Rattle.fab_mapping.specs.fab_mapping_base.fab_inventory.Ports.{port_at}
use Rattle.fab_mapping.specs.fab_mapping_base.fab_inventory.Inventories.{IsHost, IsArray}
use Rattle.fab_zoning.specs.fab_zoning_rows.Holding.{IsLoggedInAt}
use Rattle.fab_zoning.specs.Joins.{Joined}
use Rattle.fab_mapping.specs.fab_mapping_base.declared.nexus.Nexus.{Nexus}
use Rattle.fab_mapping.specs.fab_mapping_base.Groups.{StorageGroupRows}
use Rattle.fab_mapping.specs.Mappings.{IsMapped}
use Rattle.fab_reach_base.specs.Records.{Records, zoning_at}
use Rattle.fab_reach_base.specs.declared.path.Path.{Path}

-- the port of this name is known, and is this
abbrev pub IsPort : Records → ℕ → Port → Type 0
IsPort w name p = port_at w.inventory.ports name ≡ Some p

-- the host holds the port: it is an initiator
pub record IsInitiator (w : Records) (p : Port) (host : List ℕ) : Type 0 where
  pub held : p.holder ≡ Some host
  pub kind : IsHost w.inventory.holders host

-- the host holds the initiator port of this name
abbrev pub IsInitiatorOf : Records → ℕ → List ℕ → Type 0
IsInitiatorOf w name host = (p : Port) × IsPort w name p × IsInitiator w p host

-- an array holds the port: it is a target
pub record IsTarget (w : Records) (q : Port) : Type 0 where
  pub array : List ℕ
  pub held : q.holder ≡ Some array
  pub kind : IsArray w.inventory.holders array

-- the host's port and the array's may communicate in the fabric
pub record Meets (w : Records) (f : Fabric) (p q : Port) (host : List ℕ) : Type 0 where
  pub from : IsInitiator w p host
  pub to : IsTarget w q
  pub here : IsLoggedInAt f p
  pub joined : Joined (zoning_at w.config f) p q

-- where the host meets the path's volume
abbrev pub nexus_of : List ℕ → Path → Nexus
nexus_of host x = record { host = host; target = x.target; unit = x.unit }

-- the path is one of the pair: of the initiator port p and the target port q
pub record PathOf (w : Records) (p q : ℕ) (x : Path) : Type 0 where
  pub initiator : x.initiator ≡ p
  pub target : x.target ≡ q
  pub from : Port
  pub from_is : IsPort w p from
  pub to : Port
  pub to_is : IsPort w q to
  pub host : List ℕ
  pub meets : Meets w x.fabric from to host
  pub mapped : IsMapped w.config.mapping (nexus_of host x, x.volume)

-- the path is there
abbrev pub Reaches : Records → Path → Type 0
Reaches w x = PathOf w x.initiator x.target x

-- the path is there, and the host holds its initiator
abbrev pub ReachesFrom : Records → List ℕ → Path → Type 0
ReachesFrom w host x = Reaches w x × IsInitiatorOf w x.initiator host

-- ---- what is true of each path

-- its ports are known, logged in at its fabric, and may communicate there
pub record AreJoined (w : Records) (x : Path) : Type 0 where
  pub from : Port
  pub from_is : IsPort w x.initiator from
  pub to : Port
  pub to_is : IsPort w x.target to
  pub from_here : IsLoggedInAt x.fabric from
  pub to_here : IsLoggedInAt x.fabric to
  pub by : Joined (zoning_at w.config x.fabric) from to

-- an exposed storage group has its target, and its volume at its unit
pub record IsOffered (w : Records) (x : Path) : Type 0 where
  pub name : List ℕ
  pub group : StorageGroupRows
  pub there : map.get w.config.mapping.groups name ≡ Some group
  pub exposed : group.exposed ≡ true
  pub target : set.contains group.targets x.target ≡ true
  pub volume : map.get group.units x.unit ≡ Some x.volume
