-- Which ports, holders and volumes are an inventory's.
use Rattle.std.specs.Prelude.{ℕ, ◌≡◌, ◌≤◌, List, Option, None, Some, is_some, true}
use Rattle.std.specs.Ordering.{nat_cmp}
use Rattle.std.specs.BTreeMap.{BTreeMap, get}
use Rattle.std.specs.FinMap as map
use Rattle.fab_inventory.specs.declared.port.Known.{Known}
use Rattle.fab_inventory.specs.declared.port.Seat.{Seat}
use Rattle.fab_inventory.specs.declared.holder.Holder.{Holder}
use Rattle.fab_inventory.specs.declared.holder.Volume.{Volume}
use Rattle.fab_inventory.specs.declared.fault.RestoreFault.{RestoreFault}
use Rattle.fab_inventory.specs.declared.fault.RestoreFault.TheVariants.{Ports, Addresses, Holders, Volumes, Memory}
use Rattle.fab_inventory.specs.Limits.{most_ports, most_holders, most_volumes}
use Rattle.fab_inventory.specs.Ports.{KnownPorts}
use Rattle.fab_inventory.specs.Holders.{holder_in}
use Rattle.fab_inventory.specs.Inventories.{InventoryRows, HolderRows, VolumeRows, HaveNoAddress, HoldsFew, IsArray, IsCapacity}

-- what is known of a port of this seat and this address, if it has one
abbrev pub seated : Option Seat → Option ℕ → Option Known
seated None address = None
seated (Some s) address = Some (record { node = s.node; at = s.at; address = address; holder = s.holder })

-- each address is of a port that has a seat and is logged in
abbrev pub AreSeated : (ℕ → Option Seat) → (ℕ → Option ℕ) → Type 0
AreSeated seats addresses = (q n : ℕ) → addresses q ≡ Some n → (s : Seat) × (seats q ≡ Some s) × (is_some s.at ≡ true)

-- the inventory has just these ports, addresses, holders and volumes
pub record IsRestored (seats : BTreeMap ℕ Seat) (addresses : BTreeMap ℕ ℕ) (holders : BTreeMap (List ℕ) Holder) (volumes : BTreeMap (List ℕ) Volume) (v : InventoryRows) : Type 0 where
  pub ports : (q : ℕ) → map.get v.ports q ≡ seated (get nat_cmp seats q) (get nat_cmp addresses q)
  pub holders_are : v.holders ≡ map.from_entries holders.entries
  pub volumes_are : v.volumes ≡ map.from_entries volumes.entries

-- each holder that a port names is there, no holder holds too many, and there are not too many ports
pub record ArePortsSound (ports : KnownPorts) (holders : HolderRows) : Type 0 where
  pub holdings : (q : ℕ) (h : List ℕ) → holder_in (map.get ports) q ≡ Some h → map.contains_key holders h ≡ true
  pub few : map.len ports ≤ most_ports
  pub few_held : (h : List ℕ) → HoldsFew ports h

-- no port that is logged in nowhere has an address
abbrev pub AreAddressesSound : KnownPorts → Type 0
AreAddressesSound = HaveNoAddress

-- there are not too many holders
abbrev pub AreHoldersSound : HolderRows → Type 0
AreHoldersSound holders = map.len holders ≤ most_holders

-- each volume is on an array and has a capacity, and there are not too many
pub record AreVolumesSound (holders : HolderRows) (volumes : VolumeRows) : Type 0 where
  pub arrays : (n : List ℕ) (x : Volume) → map.get volumes n ≡ Some x → IsArray holders x.array
  pub capacities : (n : List ℕ) (x : Volume) → map.get volumes n ≡ Some x → IsCapacity x.bytes
  pub few : map.len volumes ≤ most_volumes

-- which part is not sound
abbrev pub RestoreFails : BTreeMap ℕ Seat → BTreeMap ℕ ℕ → BTreeMap (List ℕ) Holder → BTreeMap (List ℕ) Volume → RestoreFault → Type 0
RestoreFails seats addresses holders volumes Ports = (v : InventoryRows) × IsRestored seats addresses holders volumes v × ¬ ArePortsSound v.ports v.holders
RestoreFails seats addresses holders volumes Addresses = ¬ AreSeated (get nat_cmp seats) (get nat_cmp addresses)
RestoreFails seats addresses holders volumes Holders = ¬ AreHoldersSound (map.from_entries holders.entries)
RestoreFails seats addresses holders volumes Volumes = ¬ AreVolumesSound (map.from_entries holders.entries) (map.from_entries volumes.entries)
RestoreFails seats addresses holders volumes Memory = Unit {0}
