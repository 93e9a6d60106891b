-- Each row of the world after is shown by a line, where each row of the world before is.
use Rattle.std.proofs.Common.{◌↔◌, ⊎_elim, List, Contains}
use Rattle.fab_store_columns.specs.MetaLines.{MetaColumns, ShowsMeta}
use Rattle.fab_store_columns.specs.declared.meta_lines.MetaRow.{MetaRow}
use Rattle.fab_store_columns.specs.declared.meta_lines.MetaRow.TheVariants as meta
use Rattle.fab_store_load.specs.declared.fault.Table.TheVariants as table
use Rattle.fab_store_base.proofs.Standing.{meta_told, port_told, address_told, holder_told, volume_told, config_told, plan_told, approval_told, undo_told, path_told}
use Rattle.fab_store_tables.specs.Listing.{AreLinesOf}
use Rattle.fab_store_tables.specs.Rows.{AnyRow, count, port, address, holder, volume, config_row, plan, approval, undo, path, ShowsRow}
use Rattle.fab_store_base.proofs.InRange.{row_in_range}
use Rattle.fab_store_base.specs.Standing.{StandsRow, StandsOnlyIn}
use Rattle.fab_store_rows.specs.declared.config_row.ConfigRow.TheVariants as config
use Rattle.fab_store_rows.specs.declared.table_rows.CountRow.TheVariants.{Schema, Revision}
use Rattle.fab_store_base.specs.Worlds.{IsMetaRow, IsWritten}
use Rattle.fab_store_tables.specs.declared.stored_line.TableLine.{TableLine}
use Rattle.fab_world.specs.Soundness.{IsSound}
use Rattle.fab_world.specs.Worlds.{WorldRows}

module _ {A : Type 0} (before after : WorldRows) (sound : IsSound after) (rows : List AnyRow) (lines : List (TableLine A)) (of : AreLinesOf rows lines) (listed : (x : AnyRow) → Contains rows x ↔ StandsOnlyIn after before x) (shown : IsWritten before) where
  -- a row that stands only after has a line
  line_of : (x : AnyRow) → StandsRow after x → ¬ StandsRow before x → (l : TableLine A) × ShowsRow x l
  line_of x stands none = of.shown x ((listed x).1 (stands, none)) (row_in_range after sound x stands)

  -- a setting is shown by a line that there was, or by one that is added
  meta_written : (m : MetaRow) → IsMetaRow after m → (l : MetaColumns) × ShowsMeta l m
  meta_written (meta.Schema n) h = ⊎_elim (shown table.Meta (meta.Schema n)) (λ none. let s = line_of (count (Schema n)) h none in (s.1.columns, s.1.shows)) (meta_told before (meta.Schema n))
  meta_written (meta.Revision n) h = ⊎_elim (shown table.Meta (meta.Revision n)) (λ none. let s = line_of (count (Revision n)) h none in (s.1.columns, s.1.shows)) (meta_told before (meta.Revision n))
  meta_written (meta.Setting r) h = ⊎_elim (shown table.Meta (meta.Setting r)) (λ none. let s = line_of (config_row (config.Setting r)) h none in (s.1.columns, s.1.shows)) (meta_told before (meta.Setting r))

  -- and so is each row of the other tables
  pub written : IsWritten after
  written table.Meta = meta_written
  written table.Ports = λ r h. ⊎_elim (shown table.Ports r) (λ none. let s = line_of (port r) h none in (s.1.columns, s.1.shows)) (port_told before r)
  written table.Addresses = λ r h. ⊎_elim (shown table.Addresses r) (λ none. let s = line_of (address r) h none in (s.1.columns, s.1.shows)) (address_told before r)
  written table.Holders = λ r h. ⊎_elim (shown table.Holders r) (λ none. let s = line_of (holder r) h none in (s.1.columns, s.1.shows)) (holder_told before r)
  written table.Volumes = λ r h. ⊎_elim (shown table.Volumes r) (λ none. let s = line_of (volume r) h none in (s.1.columns, s.1.shows)) (volume_told before r)
  written table.Zoning = λ r h. ⊎_elim (shown table.Zoning r) (λ none. let s = line_of (config_row (config.Zoning r)) h none in (s.1.columns, s.1.shows)) (config_told before (config.Zoning r))
  written table.Active = λ r h. ⊎_elim (shown table.Active r) (λ none. let s = line_of (config_row (config.Active r)) h none in (s.1.columns, s.1.shows)) (config_told before (config.Active r))
  written table.Groups = λ r h. ⊎_elim (shown table.Groups r) (λ none. let s = line_of (config_row (config.Group r)) h none in (s.1.columns, s.1.shows)) (config_told before (config.Group r))
  written table.GroupParts = λ r h. ⊎_elim (shown table.GroupParts r) (λ none. let s = line_of (config_row (config.Part r)) h none in (s.1.columns, s.1.shows)) (config_told before (config.Part r))
  written table.Plans = λ r h. ⊎_elim (shown table.Plans r) (λ none. let s = line_of (plan r) h none in (s.1.columns, s.1.shows)) (plan_told after before r h)
  written table.Approvals = λ r h. ⊎_elim (shown table.Approvals r) (λ none. let s = line_of (approval r) h none in (s.1.columns, s.1.shows)) (approval_told before r)
  written table.Undo = λ r h. ⊎_elim (shown table.Undo r) (λ none. let s = line_of (undo r) h none in (s.1.columns, s.1.shows)) (undo_told before r)
  written table.Paths = λ r h. ⊎_elim (shown table.Paths r) (λ none. let s = line_of (path r) h none in (s.1.columns, s.1.shows)) (path_told before r)
