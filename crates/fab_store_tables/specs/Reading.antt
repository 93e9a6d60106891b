-- The rows that the lines of all tables show.
use Rattle.std.specs.Prelude.{◌≡◌, ◌⊎◌, List, ◌++◌, Contains, Option, None, Some}
use Rattle.std.specs.List.{AllZip, filter_map}
use Rattle.fab_store_columns.specs.InventoryLines.{ShowsPort, ShowsAddress, ShowsHolder, ShowsVolume}
use Rattle.fab_store_columns.specs.MetaLines.{ShowsMeta}
use Rattle.fab_store_columns.specs.PlanLines.{ShowsPlan}
use Rattle.fab_store_columns.specs.RecordLines.{ShowsApproval, ShowsPath}
use Rattle.fab_store_columns.specs.GroupLines.{GroupColumns, ShowsGroup, PartColumns, ShowsPart}
use Rattle.fab_store_columns.specs.ZoningLines.{ZoningColumns, ShowsZoning, ActiveColumns, ShowsActive}
use Rattle.fab_store_columns.specs.declared.meta_lines.MetaRow.{MetaRow}
use Rattle.fab_store_columns.specs.declared.meta_lines.MetaRow.TheVariants as meta
use Rattle.fab_store_load.specs.declared.fault.Table.{Table}
use Rattle.fab_store_rows.specs.declared.config_row.ConfigRow.{ConfigRow}
use Rattle.fab_store_rows.specs.declared.config_row.ConfigRow.TheVariants as config
use Rattle.fab_store_rows.specs.declared.table_rows.CountRow.{CountRow}
use Rattle.fab_store_rows.specs.declared.table_rows.CountRow.TheVariants.{Schema, Revision}
use Rattle.fab_store_rows.specs.declared.table_rows.TableRows.{TableRows}
use Rattle.fab_store_tables.specs.Rows.{AnyRow, count, port, address, holder, volume, config_row, plan, approval, undo, path, ShowsConfig, ShowsRow}
use Rattle.fab_store_tables.specs.declared.lines.TableLines.{TableLines}
use Rattle.fab_store_tables.specs.declared.reading.InventoryIn.{InventoryIn}
use Rattle.fab_store_tables.specs.declared.reading.RecordsIn.{RecordsIn}
use Rattle.fab_store_tables.specs.UndoLines.{ShowsUndo}
use Rattle.fab_store_tables.specs.Tables.{table_of}
use Rattle.fab_store_tables.specs.declared.stored_line.TableLine.{TableLine}
use Rattle.fab_store_tables.specs.declared.stored_line.TableLine.TheVariants as line

-- the line is among those of its table
abbrev pub IsIn : {A : Type 0} → TableLines → TableLine A → Type 0
IsIn t (line.Meta l) = Contains t.meta.items l
IsIn t (line.Port l) = Contains t.ports.items l
IsIn t (line.Address l) = Contains t.addresses.items l
IsIn t (line.Holder l) = Contains t.holders.items l
IsIn t (line.Volume l) = Contains t.volumes.items l
IsIn t (line.Zoning l) = Contains t.zoning.items l
IsIn t (line.Active l) = Contains t.active.items l
IsIn t (line.Group l) = Contains t.groups.items l
IsIn t (line.Part l) = Contains t.parts.items l
IsIn t (line.Plan l) = Contains t.plans.items l
IsIn t (line.Approval l) = Contains t.approvals.items l
IsIn t (line.Undo l) = Contains t.undo.items l
IsIn t (line.Path l) = Contains t.paths.items l

-- the row is among those of its kind
abbrev pub HasRow : {A : Type 0} → TableRows A → AnyRow → Type 0
HasRow t (count r) = Contains t.counts.items r
HasRow t (port r) = Contains t.ports.items r
HasRow t (address r) = Contains t.addresses.items r
HasRow t (holder r) = Contains t.holders.items r
HasRow t (volume r) = Contains t.volumes.items r
HasRow t (config_row r) = Contains t.config.items r
HasRow t (plan r) = Contains t.plans.items r
HasRow t (approval r) = Contains t.approvals.items r
HasRow t (undo r) = Contains t.undo.items r
HasRow t (path r) = Contains t.paths.items r

-- each line shows one of the rows, each row is shown by one of the lines, and the rows of plans are
-- those of the lines of plans at their places
pub record AreRowsOf {A : Type 0} (lines : TableLines) (rows : TableRows A) : Type 0 where
  pub each : (l : TableLine A) → IsIn lines l → (x : AnyRow) × HasRow rows x × ShowsRow x l
  pub every : (x : AnyRow) → HasRow rows x → (l : TableLine A) × IsIn lines l × ShowsRow x l
  pub plans : AllZip ShowsPlan lines.plans.items rows.plans.items

-- some line of the table shows no row
abbrev pub HasOddLine : Type 0 → TableLines → Table → Type 0
HasOddLine A lines t = (l : TableLine A) × IsIn lines l × (table_of l ≡ t) × ((x : AnyRow) → ¬ ShowsRow x l)

-- ---- on the way

-- the row of one kind among those of several
pub record IsShownAs {L R S : Type 0} (Shows : L → R → Type 0) (as_row : R → S) (l : L) (s : S) : Type 0 where
  pub row : R
  pub shows : Shows l row
  pub is : s ≡ as_row row

-- some line shows no row
abbrev pub HasOdd : {L R : Type 0} → (L → R → Type 0) → List L → Type 0
HasOdd {L} {R} Shows lines = (l : L) × Contains lines l × ((r : R) → ¬ Shows l r)

-- the rows that the lines show stand behind the old ones, at the lines' places
abbrev pub AddsShown : {L R : Type 0} → (L → R → Type 0) → List L → List R → List R → Type 0
AddsShown {L} {R} Shows lines old new = (more : List R) × (new ≡ old ++ more) × AllZip Shows lines more

-- of a fault: it names this table, some line of which shows no row
abbrev pub IsOddAt : {L R : Type 0} → (L → R → Type 0) → List L → Table → Table → Type 0
IsOddAt Shows lines at t = (t ≡ at) × HasOdd Shows lines

-- the schema or the revision, and the setting of a configuration, that a row of settings is
abbrev pub count_in : MetaRow → Option CountRow
count_in (meta.Schema n) = Some (Schema n)
count_in (meta.Revision n) = Some (Revision n)
count_in (meta.Setting r) = None

abbrev pub setting_in : MetaRow → Option ConfigRow
setting_in (meta.Schema n) = None
setting_in (meta.Revision n) = None
setting_in (meta.Setting r) = Some (config.Setting r)

-- each line of the tables of a configuration but settings shows one of the rows, and each row but
-- these settings is shown by one of them
pub record AreConfigRowsOf (A : Type 0) (settings : List ConfigRow) (lines : TableLines) (rows : List ConfigRow) : Type 0 where
  pub kept : (r : ConfigRow) → Contains settings r → Contains rows r
  pub zoning : (l : ZoningColumns) → Contains lines.zoning.items l → (r : ConfigRow) × Contains rows r × IsShownAs ShowsZoning config.Zoning l r
  pub active : (l : ActiveColumns) → Contains lines.active.items l → (r : ConfigRow) × Contains rows r × IsShownAs ShowsActive config.Active l r
  pub groups : (l : GroupColumns) → Contains lines.groups.items l → (r : ConfigRow) × Contains rows r × IsShownAs ShowsGroup config.Group l r
  pub parts : (l : PartColumns) → Contains lines.parts.items l → (r : ConfigRow) × Contains rows r × IsShownAs ShowsPart config.Part l r
  pub every : (r : ConfigRow) → Contains rows r → Contains settings r ⊎ ((l : TableLine A) × IsIn lines l × ShowsConfig r l)

-- the rows of settings, and those of a configuration: the lines of settings show these rows
pub record AreSettingsOf (A : Type 0) (lines : TableLines) (counts : List CountRow) (config : List ConfigRow) : Type 0 where
  pub settings : List MetaRow
  pub shown : AllZip ShowsMeta lines.meta.items settings
  pub counts_are : counts ≡ filter_map count_in settings
  pub config_are : AreConfigRowsOf A (filter_map setting_in settings) lines config

-- the rows of the other tables
pub record AreInventoryOf {A : Type 0} (lines : TableLines) (rows : InventoryIn A) : Type 0 where
  pub ports : AllZip ShowsPort lines.ports.items rows.ports.items
  pub addresses : AllZip ShowsAddress lines.addresses.items rows.addresses.items
  pub holders : AllZip ShowsHolder lines.holders.items rows.holders.items
  pub volumes : AllZip ShowsVolume lines.volumes.items rows.volumes.items

pub record AreRecordsOf {A : Type 0} (lines : TableLines) (rows : RecordsIn A) : Type 0 where
  pub plans : AllZip ShowsPlan lines.plans.items rows.plans.items
  pub approvals : AllZip ShowsApproval lines.approvals.items rows.approvals.items
  pub undo : AllZip ShowsUndo lines.undo.items rows.undo.items
  pub paths : AllZip ShowsPath lines.paths.items rows.paths.items
