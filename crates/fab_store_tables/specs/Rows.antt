-- A row of any of the thirteen tables, and the lines that show it.
use Rattle.std.specs.Prelude.{◌≡◌, ◌≤◌, ℕ}
use Rattle.fab_inventory.specs.Inventories.{IsCapacity}
use Rattle.fab_store_columns.specs.GroupLines.{ShowsGroup, ShowsPart}
use Rattle.fab_store_columns.specs.InventoryLines.{ShowsPort, ShowsAddress, ShowsHolder, ShowsVolume}
use Rattle.fab_store_columns.specs.MetaLines.{ShowsMeta, IsKeptNumber}
use Rattle.fab_store_columns.specs.PlanLines.{ShowsPlan}
use Rattle.fab_store_columns.specs.RecordLines.{ShowsApproval, ShowsPath}
use Rattle.fab_store_columns.specs.ZoningLines.{ShowsZoning, ShowsActive}
use Rattle.fab_store_columns_base.specs.Limits.{most_number}
use Rattle.fab_mapping_base.specs.Limits.{last_unit}
use Rattle.fab_store_tables.specs.UndoLines.{ShowsUndo, HasUnitInRange}
use Rattle.fab_store_columns.specs.declared.meta_lines.MetaRow.{MetaRow}
use Rattle.fab_store_columns.specs.declared.meta_lines.MetaRow.TheVariants as meta
use Rattle.fab_store_rows.specs.PlanEntries.{PlanEntry}
use Rattle.fab_store_rows.specs.declared.config_row.ConfigRow.{ConfigRow}
use Rattle.fab_store_rows.specs.declared.config_row.ConfigRow.TheVariants as config
use Rattle.fab_store_rows.specs.declared.inventory_row.AddressRow.{AddressRow}
use Rattle.fab_store_rows.specs.declared.inventory_row.HolderRow.{HolderRow}
use Rattle.fab_store_rows.specs.declared.inventory_row.PortEntry.{PortEntry}
use Rattle.fab_store_rows.specs.declared.inventory_row.VolumeRow.{VolumeRow}
use Rattle.fab_store_rows.specs.declared.record_row.ApprovalRow.{ApprovalRow}
use Rattle.fab_store_rows.specs.declared.record_row.PathRow.{PathRow}
use Rattle.fab_store_rows.specs.declared.record_row.UndoRow.{UndoRow}
use Rattle.fab_store_rows.specs.declared.table_rows.CountRow.{CountRow}
use Rattle.fab_store_rows.specs.declared.table_rows.CountRow.TheVariants.{Schema, Revision}
use Rattle.fab_store_tables.specs.declared.stored_line.TableLine.{TableLine}
use Rattle.fab_store_tables.specs.declared.stored_line.TableLine.TheVariants as line

-- a row of some table
pub data AnyRow : Type 0 where
  count : CountRow → AnyRow
  port : PortEntry → AnyRow
  address : AddressRow → AnyRow
  holder : HolderRow → AnyRow
  volume : VolumeRow → AnyRow
  config_row : ConfigRow → AnyRow
  plan : PlanEntry → AnyRow
  approval : ApprovalRow → AnyRow
  undo : UndoRow → AnyRow
  path : PathRow → AnyRow

-- the line is of the table, and its columns show the row
pub record IsLine {L R M : Type 0} (of_table : L → M) (Shows : L → R → Type 0) (r : R) (l : M) : Type 0 where
  pub columns : L
  pub shows : Shows columns r
  pub is : l ≡ of_table columns

-- the line shows the row of a configuration, in its table
abbrev pub ShowsConfig : {A : Type 0} → ConfigRow → TableLine A → Type 0
ShowsConfig (config.Setting r) = IsLine line.Meta ShowsMeta (meta.Setting r)
ShowsConfig (config.Zoning r) = IsLine line.Zoning ShowsZoning r
ShowsConfig (config.Active r) = IsLine line.Active ShowsActive r
ShowsConfig (config.Group r) = IsLine line.Group ShowsGroup r
ShowsConfig (config.Part r) = IsLine line.Part ShowsPart r

-- the line shows the row, in its table
abbrev pub ShowsRow : {A : Type 0} → AnyRow → TableLine A → Type 0
ShowsRow (count (Schema n)) = IsLine line.Meta ShowsMeta (meta.Schema n)
ShowsRow (count (Revision n)) = IsLine line.Meta ShowsMeta (meta.Revision n)
ShowsRow (port r) = IsLine line.Port ShowsPort r
ShowsRow (address r) = IsLine line.Address ShowsAddress r
ShowsRow (holder r) = IsLine line.Holder ShowsHolder r
ShowsRow (volume r) = IsLine line.Volume ShowsVolume r
ShowsRow (config_row r) = ShowsConfig r
ShowsRow (plan r) = IsLine line.Plan ShowsPlan r
ShowsRow (approval r) = IsLine line.Approval ShowsApproval r
ShowsRow (undo r) = IsLine line.Undo ShowsUndo r
ShowsRow (path r) = IsLine line.Path ShowsPath r

-- the row of settings tells this number
abbrev pub IsNumber : MetaRow → ℕ → Type 0
IsNumber (meta.Schema n) number = n ≡ number
IsNumber (meta.Revision n) number = n ≡ number
IsNumber (meta.Setting r) number = ⊥

-- the numbers of the row are within their range, so that a database keeps them
abbrev pub IsInRange : AnyRow → Type 0
IsInRange (count (Schema n)) = IsKeptNumber (meta.Schema n)
IsInRange (count (Revision n)) = IsKeptNumber (meta.Revision n)
IsInRange (port r) = Unit {0}
IsInRange (address r) = Unit {0}
IsInRange (holder r) = Unit {0}
IsInRange (volume r) = IsCapacity r.bytes
IsInRange (config_row r) = HasUnitInRange r
IsInRange (plan r) = r.position ≤ most_number
IsInRange (approval r) = r.revision ≤ most_number
IsInRange (undo r) = HasUnitInRange r.row
IsInRange (path r) = r.path.unit ≤ last_unit
