-- The joined words of a line that shows a row are its entry.
use Rattle.std.proofs.Common.{ℕ, ◌≡◌, List, ◌∷◌, codes, refl}
use Rattle.std.specs.List.{join_with_byte}
use Rattle.fab_store_rows.specs.declared.config_row.SettingRow.{SettingRow}
use Rattle.fab_store_rows.specs.declared.config_row.ZoningRow.{ZoningRow}
use Rattle.fab_store_rows.specs.declared.config_row.ActiveRow.{ActiveRow}
use Rattle.fab_store_rows.specs.declared.config_row.GroupRow.{GroupRow}
use Rattle.fab_store_rows.specs.declared.config_row.PartRow.{PartRow}
use Rattle.fab_store_rows.specs.declared.config_row.ConfigRow.TheVariants as row
use Rattle.fab_store_columns.specs.MetaLines.{MetaColumns, ShowsSetting}
use Rattle.fab_store_columns.specs.ZoningLines.{ZoningColumns, ShowsZoning, ActiveColumns, ShowsActive}
use Rattle.fab_store_columns.specs.GroupLines.{GroupColumns, ShowsGroup, PartColumns, ShowsPart}
use Rattle.fab_store_tables.specs.UndoLines.{ShowsEntry, meta_columns, zoning_columns, active_columns, group_columns, part_columns}

pub meta_entry : (l : MetaColumns) (r : SettingRow) (entry : List ℕ) → ShowsSetting l r → entry ≡ join_with_byte 32 (codes "meta" ∷ meta_columns l) → ShowsEntry entry (row.Setting r)
meta_entry l r entry s joined = record { columns = meta_columns l; shown = (l, refl, s); joined = joined }

pub zoning_entry : (l : ZoningColumns) (r : ZoningRow) (entry : List ℕ) → ShowsZoning l r → entry ≡ join_with_byte 32 (codes "zoning" ∷ zoning_columns l) → ShowsEntry entry (row.Zoning r)
zoning_entry l r entry s joined = record { columns = zoning_columns l; shown = (l, refl, s); joined = joined }

pub active_entry : (l : ActiveColumns) (r : ActiveRow) (entry : List ℕ) → ShowsActive l r → entry ≡ join_with_byte 32 (codes "active" ∷ active_columns l) → ShowsEntry entry (row.Active r)
active_entry l r entry s joined = record { columns = active_columns l; shown = (l, refl, s); joined = joined }

pub group_entry : (l : GroupColumns) (r : GroupRow) (entry : List ℕ) → ShowsGroup l r → entry ≡ join_with_byte 32 (codes "groups" ∷ group_columns l) → ShowsEntry entry (row.Group r)
group_entry l r entry s joined = record { columns = group_columns l; shown = (l, refl, s); joined = joined }

pub part_entry : (l : PartColumns) (r : PartRow) (entry : List ℕ) → ShowsPart l r → entry ≡ join_with_byte 32 (codes "group_parts" ∷ part_columns l) → ShowsEntry entry (row.Part r)
part_entry l r entry s joined = record { columns = part_columns l; shown = (l, refl, s); joined = joined }
