-- What contracts see of an inventory, and what its changes are.
use Rattle.std.specs.Prelude.{ℕ, ◌≡◌, ◌≢◌, ◌<◌, ◌≤◌, List, [], length, Contains, Option, None, Some, true, false}
use Rattle.std.specs.Option.{option_map}
use Rattle.std.specs.FinMap as map
use Rattle.fab_names.specs.Orders.{name_cmp}
use Rattle.fab_inventory.specs.declared.port.Known.{Known}
use Rattle.fab_inventory.specs.declared.holder.Holder.{Holder}
use Rattle.fab_inventory.specs.declared.holder.HolderKind.{HolderKind}
use Rattle.fab_inventory.specs.declared.holder.HolderKind.TheVariants as kind
use Rattle.fab_inventory.specs.declared.holder.Volume.{Volume}
use Rattle.fab_inventory.specs.declared.fault.InventoryFault.{InventoryFault}
use Rattle.fab_inventory.specs.declared.fault.InventoryFault.TheVariants.{UnknownPort, PortHeld, Unknown, WrongKind, InUse, Limit, Memory}
use Rattle.fab_inventory.specs.declared.fault.InventoryLimit.TheVariants.{Holders, PortsOfHolder, Volumes, Bytes}
use Rattle.fab_inventory.specs.Limits.{most_ports, most_holders, most_ports_of_holder, most_volumes, most_bytes}
use Rattle.fab_inventory.specs.Ports.{KnownPorts}
use Rattle.fab_inventory.specs.Holders.{holder_in, held_after, AreKnown, AreFree, IsPortFault, IsLeastVolume}

-- the holders, and the volumes, by name
abbrev pub HolderRows : Type 0
HolderRows = map.FinMap name_cmp Holder

abbrev pub VolumeRows : Type 0
VolumeRows = map.FinMap name_cmp Volume

-- the ports that are known, the hosts and arrays, and the volumes
pub record InventoryRows : Type 0 where
  pub ports : KnownPorts
  pub holders : HolderRows
  pub volumes : VolumeRows

-- nothing is known yet
abbrev pub no_rows : InventoryRows
no_rows = record { ports = map.empty; holders = map.empty; volumes = map.empty }

-- what the holder of this name is
abbrev pub kind_of : HolderRows → List ℕ → Option HolderKind
kind_of holders name = option_map (λ (h : Holder). h.kind) (map.get holders name)

-- the name is a host's
abbrev pub IsHost : HolderRows → List ℕ → Type 0
IsHost holders name = kind_of holders name ≡ Some kind.Host

-- the name is an array's
abbrev pub IsArray : HolderRows → List ℕ → Type 0
IsArray holders name = kind_of holders name ≡ Some kind.Array

-- a capacity in bytes: 1 to the most
abbrev pub IsCapacity : ℕ → Type 0
IsCapacity bytes = (1 ≤ bytes) × (bytes ≤ most_bytes)

-- the holder holds at most so many ports: a list of so many has all that it holds
abbrev pub HoldsFew : KnownPorts → List ℕ → Type 0
HoldsFew ports h = (held : List ℕ) × (length held ≤ most_ports_of_holder) × ((q : ℕ) → holder_in (map.get ports) q ≡ Some h → Contains held q)

-- a port that is logged in nowhere has no address
abbrev pub HaveNoAddress : KnownPorts → Type 0
HaveNoAddress ports = (q : ℕ) (k : Known) → map.get ports q ≡ Some k → k.at ≡ None → k.address ≡ None

-- what is named is there, and no limit is passed
pub record IsSound (v : InventoryRows) : Type 0 where
  pub holdings : (q : ℕ) (h : List ℕ) → holder_in (map.get v.ports) q ≡ Some h → map.contains_key v.holders h ≡ true
  pub addresses : HaveNoAddress v.ports
  pub arrays : (n : List ℕ) (x : Volume) → map.get v.volumes n ≡ Some x → IsArray v.holders x.array
  pub capacities : (n : List ℕ) (x : Volume) → map.get v.volumes n ≡ Some x → IsCapacity x.bytes
  pub few_ports : map.len v.ports ≤ most_ports
  pub few_holders : map.len v.holders ≤ most_holders
  pub few_volumes : map.len v.volumes ≤ most_volumes
  pub few_held : (h : List ℕ) → HoldsFew v.ports h

-- ---- holders

-- the holder of this name, if there is one, is of the kind
abbrev pub HasNoOtherKind : HolderRows → List ℕ → HolderKind → Type 0
HasNoOtherKind holders name k = (j : HolderKind) → kind_of holders name ≡ Some j → j ≡ k

-- the holder of this name is of the other kind
abbrev pub HasOtherKind : HolderRows → List ℕ → HolderKind → Type 0
HasOtherKind holders name k = (j : HolderKind) × (kind_of holders name ≡ Some j) × (j ≢ k)

-- the name is a holder's already, or there is room for one more
abbrev pub HasRoomForHolder : HolderRows → List ℕ → Type 0
HasRoomForHolder holders name = map.contains_key holders name ≡ false → map.len holders < most_holders

-- nothing refuses the put
pub record CanPutHolder (v : InventoryRows) (name : List ℕ) (k : HolderKind) (listed : List ℕ) : Type 0 where
  pub few : length listed ≤ most_ports_of_holder
  pub kind : HasNoOtherKind v.holders name k
  pub known : AreKnown (map.get v.ports) listed
  pub free : AreFree (map.get v.ports) name listed
  pub room : HasRoomForHolder v.holders name

-- the holder is there, and has just the listed ports; all else is as it was
pub record IsHolderPut (name : List ℕ) (holder : Holder) (listed : List ℕ) (old new : InventoryRows) : Type 0 where
  pub holders : new.holders ≡ map.insert old.holders name holder
  pub ports : (q : ℕ) → map.get new.ports q ≡ option_map (held_after name listed q) (map.get old.ports q)
  pub volumes : new.volumes ≡ old.volumes

-- what refuses the put, in this order
abbrev pub PutHolderFails : InventoryRows → List ℕ → HolderKind → List ℕ → InventoryFault → Type 0
PutHolderFails v name k listed (Limit PortsOfHolder) = most_ports_of_holder < length listed
PutHolderFails v name k listed (WrongKind n) = (length listed ≤ most_ports_of_holder) × (n ≡ name) × HasOtherKind v.holders name k
PutHolderFails v name k listed (UnknownPort q) = (length listed ≤ most_ports_of_holder) × HasNoOtherKind v.holders name k × IsPortFault (map.get v.ports) name listed (UnknownPort q)
PutHolderFails v name k listed (PortHeld q h) = (length listed ≤ most_ports_of_holder) × HasNoOtherKind v.holders name k × IsPortFault (map.get v.ports) name listed (PortHeld q h)
PutHolderFails v name k listed (Limit Holders) =
    (length listed ≤ most_ports_of_holder) × HasNoOtherKind v.holders name k × AreKnown (map.get v.ports) listed × AreFree (map.get v.ports) name listed × (map.contains_key v.holders name ≡ false) × (most_holders ≤ map.len v.holders)
PutHolderFails v name k listed Memory = Unit {0}
PutHolderFails v name k listed _ = ⊥

-- the holder is gone, and nobody holds its ports; all else is as it was
pub record IsHolderDropped (name : List ℕ) (old new : InventoryRows) : Type 0 where
  pub holders : new.holders ≡ map.remove old.holders name
  pub ports : (q : ℕ) → map.get new.ports q ≡ option_map (held_after name [] q) (map.get old.ports q)
  pub volumes : new.volumes ≡ old.volumes

-- what refuses the drop of a holder
abbrev pub DropHolderFails : InventoryRows → List ℕ → InventoryFault → Type 0
DropHolderFails v name (Unknown n) = (n ≡ name) × (map.contains_key v.holders name ≡ false)
DropHolderFails v name (InUse n volume) = (n ≡ name) × (map.contains_key v.holders name ≡ true) × IsLeastVolume (map.get v.volumes) name volume
DropHolderFails v name _ = ⊥

-- ---- volumes

-- nothing refuses the put
pub record CanPutVolume (v : InventoryRows) (name array : List ℕ) (bytes : ℕ) : Type 0 where
  pub capacity : IsCapacity bytes
  pub on_array : IsArray v.holders array
  pub room : map.contains_key v.volumes name ≡ false → map.len v.volumes < most_volumes

-- what refuses the put, in this order
abbrev pub PutVolumeFails : InventoryRows → List ℕ → List ℕ → ℕ → InventoryFault → Type 0
PutVolumeFails v name array bytes (Limit Bytes) = ¬ IsCapacity bytes
PutVolumeFails v name array bytes (Unknown n) = IsCapacity bytes × (n ≡ array) × ¬ IsArray v.holders array
PutVolumeFails v name array bytes (Limit Volumes) = IsCapacity bytes × IsArray v.holders array × (map.contains_key v.volumes name ≡ false) × (most_volumes ≤ map.len v.volumes)
PutVolumeFails v name array bytes Memory = Unit {0}
PutVolumeFails v name array bytes _ = ⊥

-- what refuses the drop of a volume
abbrev pub DropVolumeFails : InventoryRows → List ℕ → InventoryFault → Type 0
DropVolumeFails v name (Unknown n) = (n ≡ name) × (map.contains_key v.volumes name ≡ false)
DropVolumeFails v name _ = ⊥
