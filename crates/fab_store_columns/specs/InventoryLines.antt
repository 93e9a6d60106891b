-- Lines of the tables of ports, addresses, holders and volumes, and the rows that they show.
use Rattle.std.specs.Prelude.{◌≡◌, ℕ, ℤ, List, Option}
use Rattle.fab_names.specs.Names.{SpellsName}
use Rattle.fab_names.specs.WorldWideNames.{SpellsPlain}
use Rattle.fab_names.specs.Addresses.{SpellsPrintedAddress}
use Rattle.fab_inventory.specs.Limits.{most_bytes}
use Rattle.fab_store_rows.specs.declared.inventory_row.PortEntry.{PortEntry}
use Rattle.fab_store_rows.specs.declared.inventory_row.AddressRow.{AddressRow}
use Rattle.fab_store_rows.specs.declared.inventory_row.HolderRow.{HolderRow}
use Rattle.fab_store_rows.specs.declared.inventory_row.VolumeRow.{VolumeRow}
use Rattle.fab_inventory.specs.Words.{kind_text}
use Rattle.fab_store_columns_base.specs.Columns.{ShowsOption, ShowsAt, ShowsNumber}

-- `ports`
pub record PortColumns : Type 0 where
  pub wwpn : List ℕ
  pub wwnn : List ℕ
  pub fabric : Option (List ℕ)
  pub domain : Option ℤ
  pub slot : Option ℤ
  pub holder : Option (List ℕ)

pub record ShowsPort (l : PortColumns) (p : PortEntry) : Type 0 where
  pub name : SpellsPlain l.wwpn p.name
  pub node : SpellsPlain l.wwnn p.node
  pub at : ShowsAt l.fabric l.domain l.slot p.at
  pub holder : ShowsOption SpellsName l.holder p.holder

-- `addresses`
pub record AddressColumns : Type 0 where
  pub wwpn : List ℕ
  pub address : List ℕ

pub record ShowsAddress (l : AddressColumns) (r : AddressRow) : Type 0 where
  pub port : SpellsPlain l.wwpn r.port
  pub address : SpellsPrintedAddress l.address r.address

-- `holders`
pub record HolderColumns : Type 0 where
  pub name : List ℕ
  pub kind : List ℕ
  pub tenant : List ℕ

pub record ShowsHolder (l : HolderColumns) (r : HolderRow) : Type 0 where
  pub name : SpellsName l.name r.name
  pub kind : l.kind ≡ kind_text r.kind
  pub tenant : SpellsName l.tenant r.tenant

-- `volumes`
pub record VolumeColumns : Type 0 where
  pub name : List ℕ
  pub array : List ℕ
  pub tenant : List ℕ
  pub bytes : ℤ

pub record ShowsVolume (l : VolumeColumns) (r : VolumeRow) : Type 0 where
  pub name : SpellsName l.name r.name
  pub array : SpellsName l.array r.array
  pub tenant : SpellsName l.tenant r.tenant
  pub bytes : ShowsNumber 1 most_bytes l.bytes r.bytes
