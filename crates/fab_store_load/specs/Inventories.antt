-- The rows of an inventory.
use Rattle.std.specs.Prelude.{◌↔◌, List, Contains}
use Rattle.fab_reach_base.specs.fab_inventory.declared.fault.RestoreFault.{RestoreFault}
use Rattle.fab_reach_base.specs.fab_inventory.declared.fault.RestoreFault.TheVariants as restore
use Rattle.fab_reach_base.specs.fab_inventory.Inventories.{InventoryRows}
use Rattle.fab_reach_base.specs.fab_inventory.Restores.{ArePortsSound, AreAddressesSound, AreHoldersSound, AreVolumesSound}
use Rattle.fab_store_rows.specs.declared.inventory_row.PortEntry.{PortEntry}
use Rattle.fab_store_rows.specs.declared.inventory_row.AddressRow.{AddressRow}
use Rattle.fab_store_rows.specs.declared.inventory_row.HolderRow.{HolderRow}
use Rattle.fab_store_rows.specs.declared.inventory_row.VolumeRow.{VolumeRow}
use Rattle.fab_store_rows.specs.declared.inventory_row.InventoryRow.TheVariants as row
use Rattle.fab_store_rows.specs.Standing.{IsKnown}
use Rattle.fab_store_load.specs.declared.fault.LoadFault.{LoadFault}
use Rattle.fab_store_load.specs.declared.fault.LoadFault.TheVariants.{Damaged, Memory}
use Rattle.fab_store_load.specs.declared.fault.Table.{Table}
use Rattle.fab_store_load.specs.declared.fault.Table.TheVariants.{Ports, Addresses, Holders, Volumes}

-- the rows are all that have P, and nothing else
abbrev pub AreAll : {R : Type 0} → List R → (R → Type 0) → Type 0
AreAll {R} rows P = (r : R) → Contains rows r ↔ P r

-- the rows of the four tables are those that stand in the inventory
pub record AreInventoryRows (ports : List PortEntry) (addresses : List AddressRow) (holders : List HolderRow) (volumes : List VolumeRow) (v : InventoryRows) : Type 0 where
  pub ports_are : AreAll ports (λ r. IsKnown v (row.Entry r))
  pub addresses_are : AreAll addresses (λ r. IsKnown v (row.Address r))
  pub holders_are : AreAll holders (λ r. IsKnown v (row.Holder r))
  pub volumes_are : AreAll volumes (λ r. IsKnown v (row.Volume r))

-- what is sound of the inventory so far as a table tells it
abbrev pub InventoryPartIsSound : Table → InventoryRows → Type 0
InventoryPartIsSound Ports v = ArePortsSound v.ports v.holders
InventoryPartIsSound Addresses v = AreAddressesSound v.ports
InventoryPartIsSound Holders v = AreHoldersSound v.holders
InventoryPartIsSound Volumes v = AreVolumesSound v.holders v.volumes
InventoryPartIsSound _ v = Unit {0}

-- the fault of rows of which no inventory is restored
abbrev pub load_fault : RestoreFault → LoadFault
load_fault restore.Ports = Damaged Ports
load_fault restore.Addresses = Damaged Addresses
load_fault restore.Holders = Damaged Holders
load_fault restore.Volumes = Damaged Volumes
load_fault restore.Memory = Memory
