-- The rows that paths follow from, and what tells two worlds apart.
use Rattle.std.specs.Prelude.{◌⊎◌, List, Contains}
use Rattle.fab_reach_base.specs.Records.{Records}
use Rattle.fab_store_rows.specs.Standing as rows
use Rattle.fab_store_rows.specs.declared.config_row.ConfigRow.TheVariants as config
use Rattle.fab_store_rows.specs.declared.config_row.SettingRow.TheVariants as setting
use Rattle.fab_store_rows.specs.declared.inventory_row.InventoryRow.TheVariants as inventory
use Rattle.fab_reach_books.specs.declared.row.Row.{Row}
use Rattle.fab_reach_books.specs.declared.row.Row.TheVariants.{Port, Holder, Active, DefaultZone, Group, Part}

-- the row stands in the world
abbrev pub Stands : Records → Row → Type 0
Stands w (Port p) = rows.IsKnown w.inventory (inventory.Port p)
Stands w (Holder h) = rows.IsKnown w.inventory (inventory.Holder h)
Stands w (Active r) = rows.Stands w.config (config.Active r)
Stands w (DefaultZone f permit) = rows.Stands w.config (config.Setting (setting.DefaultZone f permit))
Stands w (Group r) = rows.Stands w.config (config.Group r)
Stands w (Part r) = rows.Stands w.config (config.Part r)

-- gone has the rows of w that v lacks, and come those of v that w lacks; each look-up of v reads w and
-- the two lists alone
pub record IsRowDiff (w v : Records) (gone come : List Row) : Type 0 where
  pub left : (r : Row) → Contains gone r → Stands w r × ¬ Stands v r
  pub new : (r : Row) → Contains come r → Stands v r × ¬ Stands w r
  pub before : (r : Row) → Stands w r → Stands v r ⊎ Contains gone r
  pub after : (r : Row) → Stands v r → Stands w r ⊎ Contains come r
