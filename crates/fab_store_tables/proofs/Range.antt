-- A unit that an entry shows is within its range.
use Rattle.std.proofs.Common.{List, ℕ}
use Rattle.fab_store_rows.specs.declared.config_row.StoragePart.TheVariants as part
use Rattle.fab_store_rows.specs.declared.config_row.PartRow.TheVariants as parts
use Rattle.fab_store_rows.specs.declared.config_row.ConfigRow.{ConfigRow}
use Rattle.fab_store_rows.specs.declared.config_row.ConfigRow.TheVariants as row
use Rattle.fab_store_tables.specs.UndoLines.{ShowsColumns, ShowsEntry, HasUnitInRange}

by_columns : (columns : List (List ℕ)) (r : ConfigRow) → ShowsColumns columns r → HasUnitInRange r
by_columns columns (row.Setting r) s = tt
by_columns columns (row.Zoning r) s = tt
by_columns columns (row.Active r) s = tt
by_columns columns (row.Group r) s = tt
by_columns columns (row.Part (parts.Host n h)) s = tt
by_columns columns (row.Part (parts.Storage n (part.HostGroup h))) s = tt
by_columns columns (row.Part (parts.Storage n (part.Target t))) s = tt
by_columns columns (row.Part (parts.Storage n (part.Unit u v))) (l, is, s) = s.part.item.high

pub in_range : (entry : List ℕ) (r : ConfigRow) → ShowsEntry entry r → HasUnitInRange r
in_range entry r s = by_columns s.columns r s.shown
