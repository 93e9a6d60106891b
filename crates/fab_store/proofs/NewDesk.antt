-- The tables of a new desk have the rows of the new world.
use Rattle.std.proofs.Common.{◌≡◌, ◌↔◌, [], None, false, Contains, codes, refl, sym, ap, ◌∙◌, subst, lit<, lit≤, arith}
use Rattle.std.proofs.lemmas.Fmt.{decimal_digit}
use Rattle.std.proofs.lemmas.List.Elements.{All-contains, All-from_recursion}
use Rattle.sqlite.specs.Order.{Row}
use Rattle.fab_names.specs.declared.fabric.Fabric.TheVariants.{A, B}
use Rattle.fab_store_rows.specs.declared.config_row.ConfigRow.TheVariants as config
use Rattle.fab_store_rows.specs.declared.config_row.SettingRow.TheVariants.{ActiveSet, DefaultZone}
use Rattle.fab_store_rows.specs.declared.table_rows.TheConstants.{SCHEMA}
use Rattle.fab_store_world.specs.Standing.{IsPlanRow, IsApprovalRow, IsUndoRow}
use Rattle.fab_store_world.specs.Tables.{IsPortRow, IsAddressRow, IsHolderRow, IsVolumeRow, IsConfigRow, IsRowOfPath}
use Rattle.fab_store_columns.specs.GroupLines.{ShowsGroup, ShowsPart}
use Rattle.fab_store_columns.specs.InventoryLines.{ShowsPort, ShowsAddress, ShowsHolder, ShowsVolume}
use Rattle.fab_store_columns.specs.MetaLines.{MetaColumns, meta_line, ShowsMeta, ShowsActiveName, permit_text}
use Rattle.fab_store_columns.specs.PlanLines.{ShowsPlan}
use Rattle.fab_store_columns.specs.RecordLines.{ShowsApproval, ShowsPath}
use Rattle.fab_store_columns.specs.ZoningLines.{ShowsZoning, ShowsActive}
use Rattle.fab_store_columns.specs.declared.meta_lines.MetaRow.{MetaRow}
use Rattle.fab_store_columns.specs.declared.meta_lines.MetaRow.TheVariants.{Schema, Revision, Setting}
use Rattle.fab_store_columns.proofs.UniqueConfig.{one_meta_line}
use Rattle.fab_store_load.specs.declared.fault.Table.{Table}
use Rattle.fab_store_load.specs.declared.fault.Table.TheVariants as table
use Rattle.fab_store_tables.specs.Columns.{meta_row, port_row, address_row, holder_row, volume_row, zoning_row, active_row, group_row, part_row, plan_row, approval_row, undo_row, path_row}
use Rattle.fab_store_tables.specs.Tables.{Tables}
use Rattle.fab_store_tables.specs.UndoLines.{ShowsUndo}
use Rattle.fab_store_base.specs.Worlds.{IsShown, IsMetaRow, StandsIn, HoldsWorld, IsWritten}
use Rattle.fab_store_sql.specs.NewDesk.{new_rows, IsNewDesk}
use Rattle.fab_world.specs.Worlds.{new_world}
use Rattle.fab_store.proofs.NewWorld.{no_port, no_address, no_holder, no_volume, no_zoning, no_active, no_group, no_part, no_plan, no_approval, no_undo, no_path}

-- ---- settings

-- the line of a setting of a new desk
abbrev line_of : MetaRow → MetaColumns
line_of (Schema n) = meta_line (codes "schema") (codes "2")
line_of (Revision n) = meta_line (codes "revision") (codes "0")
line_of (Setting (ActiveSet A name)) = meta_line (codes "active.A") (codes "")
line_of (Setting (ActiveSet B name)) = meta_line (codes "active.B") (codes "")
line_of (Setting (DefaultZone A permit)) = meta_line (codes "default.A") (codes "deny")
line_of (Setting (DefaultZone B permit)) = meta_line (codes "default.B") (codes "deny")

-- it is there
line_there : (m : MetaRow) → Contains (new_rows table.Meta) (meta_row (line_of m))
line_there (Schema n) = (0, lit< tt, refl)
line_there (Revision n) = (1, lit< tt, refl)
line_there (Setting (ActiveSet A name)) = (2, lit< tt, refl)
line_there (Setting (ActiveSet B name)) = (3, lit< tt, refl)
line_there (Setting (DefaultZone A permit)) = (4, lit< tt, refl)
line_there (Setting (DefaultZone B permit)) = (5, lit< tt, refl)

-- it shows the setting, where that is one of the new world
line_shows : (m : MetaRow) → IsMetaRow new_world m → ShowsMeta (line_of m) m
line_shows (Schema n) is = subst (λ k. ShowsMeta (line_of (Schema k)) (Schema k)) (sym is) (refl, record { digits = sym (decimal_digit 2 (lit< tt)); high = lit≤ tt })
line_shows (Revision n) is = subst (λ k. ShowsMeta (line_of (Revision k)) (Revision k)) (sym is) (refl, record { digits = sym (decimal_digit 0 (lit< tt)); high = lit≤ tt })
line_shows (Setting (ActiveSet A name)) is = record { key = refl; value = subst (ShowsActiveName (codes "")) is refl }
line_shows (Setting (ActiveSet B name)) is = record { key = refl; value = subst (ShowsActiveName (codes "")) is refl }
line_shows (Setting (DefaultZone A permit)) is = record { key = refl; value = ap permit_text is }
line_shows (Setting (DefaultZone B permit)) is = record { key = refl; value = ap permit_text is }

stood : (m : MetaRow) → IsMetaRow new_world m → StandsIn new_world table.Meta (meta_row (line_of m))
stood m is = record { line = line_of m; is = refl; shown = m; shows = line_shows m is; stands = is }

-- each setting of a new desk stands in the new world
setting_stands : (r : Row) → Contains (new_rows table.Meta) r → StandsIn new_world table.Meta r
setting_stands r there = All-contains (StandsIn new_world table.Meta) (new_rows table.Meta) r (All-from_recursion (StandsIn new_world table.Meta) (new_rows table.Meta) (
  stood (Schema SCHEMA) refl,
  (
    stood (Revision 0) refl,
    (stood (Setting (ActiveSet A None)) refl, (stood (Setting (ActiveSet B None)) refl, (stood (Setting (DefaultZone A false)) refl, (stood (Setting (DefaultZone B false)) refl, tt)))),
  ),
)) there

-- and there is each that stands there
setting_there : (r : Row) → StandsIn new_world table.Meta r → Contains (new_rows table.Meta) r
setting_there r s =
    let same : s.line ≡ line_of s.shown = one_meta_line s.line (line_of s.shown) s.shown s.shows (line_shows s.shown s.stands) in
    subst (Contains (new_rows table.Meta)) (sym (s.is ∙ ap meta_row same)) (line_there s.shown)

-- ---- all tables

-- a table with no row, where none stands
none_there : {L X : Type 0} (columns_of : L → Row) (Shows : L → X → Type 0) (P : X → Type 0) → ((x : X) → ¬ P x) → (r : Row) → Contains [] r ↔ IsShown columns_of Shows P r
none_there columns_of Shows P none r = (λ there. absurd (omega (arith, there.1)), λ s. absurd (none s.shown s.stands))

rows_stand : (t : Table) (r : Row) → Contains (new_rows t) r ↔ StandsIn new_world t r
rows_stand table.Meta = λ r. (setting_stands r, setting_there r)
rows_stand table.Ports = none_there port_row ShowsPort (IsPortRow new_world) no_port
rows_stand table.Addresses = none_there address_row ShowsAddress (IsAddressRow new_world) no_address
rows_stand table.Holders = none_there holder_row ShowsHolder (IsHolderRow new_world) no_holder
rows_stand table.Volumes = none_there volume_row ShowsVolume (IsVolumeRow new_world) no_volume
rows_stand table.Zoning = none_there zoning_row ShowsZoning (λ r. IsConfigRow new_world (config.Zoning r)) no_zoning
rows_stand table.Active = none_there active_row ShowsActive (λ r. IsConfigRow new_world (config.Active r)) no_active
rows_stand table.Groups = none_there group_row ShowsGroup (λ r. IsConfigRow new_world (config.Group r)) no_group
rows_stand table.GroupParts = none_there part_row ShowsPart (λ r. IsConfigRow new_world (config.Part r)) no_part
rows_stand table.Plans = none_there plan_row ShowsPlan (IsPlanRow new_world) no_plan
rows_stand table.Approvals = none_there approval_row ShowsApproval (IsApprovalRow new_world) no_approval
rows_stand table.Undo = none_there undo_row ShowsUndo (IsUndoRow new_world) no_undo
rows_stand table.Paths = none_there path_row ShowsPath (IsRowOfPath new_world) no_path

pub new_desk_holds : (tables : Tables) → IsNewDesk tables → HoldsWorld tables new_world
new_desk_holds tables new t r = (λ there. (rows_stand t r).0 ((new t r).0 there), λ stands. (new t r).1 ((rows_stand t r).1 stands))

pub new_world_is_written : IsWritten new_world
new_world_is_written table.Meta = λ m is. (line_of m, line_shows m is)
new_world_is_written table.Ports = λ r is. absurd (no_port r is)
new_world_is_written table.Addresses = λ r is. absurd (no_address r is)
new_world_is_written table.Holders = λ r is. absurd (no_holder r is)
new_world_is_written table.Volumes = λ r is. absurd (no_volume r is)
new_world_is_written table.Zoning = λ r is. absurd (no_zoning r is)
new_world_is_written table.Active = λ r is. absurd (no_active r is)
new_world_is_written table.Groups = λ r is. absurd (no_group r is)
new_world_is_written table.GroupParts = λ r is. absurd (no_part r is)
new_world_is_written table.Plans = λ r is. absurd (no_plan r is)
new_world_is_written table.Approvals = λ r is. absurd (no_approval r is)
new_world_is_written table.Undo = λ r is. absurd (no_undo r is)
new_world_is_written table.Paths = λ r is. absurd (no_path r is)
