-- The numbers of rows that lines show are within their range.
use Rattle.std.specs.Prelude.{ℕ, List}
use Rattle.fab_store_rows.specs.declared.config_row.ConfigRow.{ConfigRow}
use Rattle.fab_store_rows.specs.declared.config_row.ConfigRow.TheVariants as config
use Rattle.fab_store_rows.specs.declared.config_row.PartRow.TheVariants as parts
use Rattle.fab_store_rows.specs.declared.config_row.StoragePart.TheVariants as part
use Rattle.fab_store_rows.specs.declared.table_rows.CountRow.TheVariants.{Schema, Revision}
use Rattle.fab_store_tables.specs.declared.stored_line.TableLine.{TableLine}
use Rattle.fab_store_tables.specs.UndoLines.{ShowsColumns, HasUnitInRange}
use Rattle.fab_store_tables.specs.Rows.{AnyRow, count, port, address, holder, volume, config_row, plan, approval, undo, path, ShowsConfig, ShowsRow, IsInRange}

config_in_range : {A : Type 0} (r : ConfigRow) (l : TableLine A) → ShowsConfig r l → HasUnitInRange r
config_in_range (config.Setting r) l s = tt
config_in_range (config.Zoning r) l s = tt
config_in_range (config.Active r) l s = tt
config_in_range (config.Group r) l s = tt
config_in_range (config.Part (parts.Host n h)) l s = tt
config_in_range (config.Part (parts.Storage n (part.HostGroup h))) l s = tt
config_in_range (config.Part (parts.Storage n (part.Target t))) l s = tt
config_in_range (config.Part (parts.Storage n (part.Unit u v))) l s = s.shows.part.item.high

-- an entry of a change shows its row as a line of the row's table does
entry_in_range : (columns : List (List ℕ)) (r : ConfigRow) → ShowsColumns columns r → HasUnitInRange r
entry_in_range columns (config.Setting r) s = tt
entry_in_range columns (config.Zoning r) s = tt
entry_in_range columns (config.Active r) s = tt
entry_in_range columns (config.Group r) s = tt
entry_in_range columns (config.Part (parts.Host n h)) s = tt
entry_in_range columns (config.Part (parts.Storage n (part.HostGroup h))) s = tt
entry_in_range columns (config.Part (parts.Storage n (part.Target t))) s = tt
entry_in_range columns (config.Part (parts.Storage n (part.Unit u v))) s = s.2.part.item.high

pub shown_in_range : {A : Type 0} (x : AnyRow) (l : TableLine A) → ShowsRow x l → IsInRange x
shown_in_range (count (Schema n)) l s = s.shows.1.high
shown_in_range (count (Revision n)) l s = s.shows.1.high
shown_in_range (port r) l s = tt
shown_in_range (address r) l s = tt
shown_in_range (holder r) l s = tt
shown_in_range (volume r) l s = (s.shows.bytes.low, s.shows.bytes.high)
shown_in_range (config_row r) l s = config_in_range r l s
shown_in_range (plan r) l s = s.shows.position.high
shown_in_range (approval r) l s = s.shows.revision.high
shown_in_range (undo r) l s = entry_in_range s.shows.entry.columns r.row s.shows.entry.shown
shown_in_range (path r) l s = s.shows.lun.high
