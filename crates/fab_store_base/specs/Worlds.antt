-- Tables that have the rows of a world.
use Rattle.std.specs.Prelude.{◌≡◌, ◌↔◌, ℕ, List, Contains}
use Rattle.sqlite.specs.Order.{Row}
use Rattle.fab_store_world.specs.Standing.{IsPlanRow, IsApprovalRow, IsUndoRow}
use Rattle.fab_store_world.specs.Tables.{IsCountRow, IsPortRow, IsAddressRow, IsHolderRow, IsVolumeRow, IsConfigRow, IsRowOfPath}
use Rattle.fab_store_columns.specs.GroupLines.{ShowsGroup, ShowsPart}
use Rattle.fab_store_columns.specs.InventoryLines.{ShowsPort, ShowsAddress, ShowsHolder, ShowsVolume}
use Rattle.fab_store_columns.specs.MetaLines.{ShowsMeta}
use Rattle.fab_store_columns.specs.PlanLines.{ShowsPlan}
use Rattle.fab_store_columns.specs.RecordLines.{ShowsApproval, ShowsPath}
use Rattle.fab_store_columns.specs.ZoningLines.{ShowsZoning, ShowsActive}
use Rattle.fab_store_columns.specs.declared.meta_lines.MetaRow.{MetaRow}
use Rattle.fab_store_columns.specs.declared.meta_lines.MetaRow.TheVariants as meta
use Rattle.fab_store_load.specs.declared.fault.Table.{Table}
use Rattle.fab_store_load.specs.declared.fault.Table.TheVariants as table
use Rattle.fab_reach_base.specs.Orders.{IsListOf as IsPathList}
use Rattle.fab_reach_base.specs.declared.path.Path.{Path}
use Rattle.fab_store_rows.specs.declared.config_row.ConfigRow.TheVariants as config
use Rattle.fab_store_rows.specs.declared.record_row.PathRow.{PathRow}
use Rattle.fab_store_rows.specs.declared.table_rows.CountRow.TheVariants as count
use Rattle.fab_store_tables.specs.Columns.{meta_row, port_row, address_row, holder_row, volume_row, zoning_row, active_row, group_row, part_row, plan_row, approval_row, undo_row, path_row}
use Rattle.fab_store_tables.specs.Tables.{Tables}
use Rattle.fab_store_tables.specs.UndoLines.{ShowsUndo}
use Rattle.fab_world.specs.Worlds.{WorldRows}

-- the columns are those of a line that shows something that has P
pub record IsShown {L X : Type 0} (columns_of : L → Row) (Shows : L → X → Type 0) (P : X → Type 0) (columns : Row) : Type 0 where
  pub line : L
  pub is : columns ≡ columns_of line
  pub shown : X
  pub shows : Shows line shown
  pub stands : P shown

-- a setting that stands in the world
abbrev pub IsMetaRow : WorldRows → MetaRow → Type 0
IsMetaRow w (meta.Schema n) = IsCountRow w (count.Schema n)
IsMetaRow w (meta.Revision n) = IsCountRow w (count.Revision n)
IsMetaRow w (meta.Setting r) = IsConfigRow w (config.Setting r)

-- a row of the table stands in the world, and has these columns
abbrev pub StandsIn : WorldRows → Table → Row → Type 0
StandsIn w table.Meta = IsShown meta_row ShowsMeta (IsMetaRow w)
StandsIn w table.Ports = IsShown port_row ShowsPort (IsPortRow w)
StandsIn w table.Addresses = IsShown address_row ShowsAddress (IsAddressRow w)
StandsIn w table.Holders = IsShown holder_row ShowsHolder (IsHolderRow w)
StandsIn w table.Volumes = IsShown volume_row ShowsVolume (IsVolumeRow w)
StandsIn w table.Zoning = IsShown zoning_row ShowsZoning (λ r. IsConfigRow w (config.Zoning r))
StandsIn w table.Active = IsShown active_row ShowsActive (λ r. IsConfigRow w (config.Active r))
StandsIn w table.Groups = IsShown group_row ShowsGroup (λ r. IsConfigRow w (config.Group r))
StandsIn w table.GroupParts = IsShown part_row ShowsPart (λ r. IsConfigRow w (config.Part r))
StandsIn w table.Plans = IsShown plan_row ShowsPlan (IsPlanRow w)
StandsIn w table.Approvals = IsShown approval_row ShowsApproval (IsApprovalRow w)
StandsIn w table.Undo = IsShown undo_row ShowsUndo (IsUndoRow w)
StandsIn w table.Paths = IsShown path_row ShowsPath (IsRowOfPath w)

-- the tables have just the rows of the world
abbrev pub HoldsWorld : Tables → WorldRows → Type 0
HoldsWorld tables w = (t : Table) (columns : Row) → Contains (tables t) columns ↔ StandsIn w t columns

-- the table of paths has the path of this host
abbrev pub HasPathOf : Tables → List ℕ → Path → Type 0
HasPathOf tables host x = (columns : Row) × Contains (tables table.Paths) columns × IsShown path_row ShowsPath (λ (r : PathRow). (r.host ≡ host) × (r.path ≡ x)) columns

-- the paths are those of the host in their table, each once, in order
abbrev pub ArePathsIn : Tables → List ℕ → List Path → Type 0
ArePathsIn tables host = IsPathList (HasPathOf tables host)

-- each that has P is shown by some line
abbrev pub AreAllShown : {L X : Type 0} → (L → X → Type 0) → (X → Type 0) → Type 0
AreAllShown {L} {X} Shows P = (x : X) → P x → (l : L) × Shows l x

-- each row of the table that stands in the world is shown by some line
abbrev pub IsWrittenIn : WorldRows → Table → Type 0
IsWrittenIn w table.Meta = AreAllShown ShowsMeta (IsMetaRow w)
IsWrittenIn w table.Ports = AreAllShown ShowsPort (IsPortRow w)
IsWrittenIn w table.Addresses = AreAllShown ShowsAddress (IsAddressRow w)
IsWrittenIn w table.Holders = AreAllShown ShowsHolder (IsHolderRow w)
IsWrittenIn w table.Volumes = AreAllShown ShowsVolume (IsVolumeRow w)
IsWrittenIn w table.Zoning = AreAllShown ShowsZoning (λ r. IsConfigRow w (config.Zoning r))
IsWrittenIn w table.Active = AreAllShown ShowsActive (λ r. IsConfigRow w (config.Active r))
IsWrittenIn w table.Groups = AreAllShown ShowsGroup (λ r. IsConfigRow w (config.Group r))
IsWrittenIn w table.GroupParts = AreAllShown ShowsPart (λ r. IsConfigRow w (config.Part r))
IsWrittenIn w table.Plans = AreAllShown ShowsPlan (IsPlanRow w)
IsWrittenIn w table.Approvals = AreAllShown ShowsApproval (IsApprovalRow w)
IsWrittenIn w table.Undo = AreAllShown ShowsUndo (IsUndoRow w)
IsWrittenIn w table.Paths = AreAllShown ShowsPath (IsRowOfPath w)

-- each row that stands in the world is shown by some line: its names are names, and its numbers are
-- within their range
abbrev pub IsWritten : WorldRows → Type 0
IsWritten w = (t : Table) → IsWrittenIn w t
