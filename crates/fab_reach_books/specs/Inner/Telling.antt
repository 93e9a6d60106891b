-- How the rows in which two worlds differ are gathered. No public contract names anything of this file.
use Rattle.std.specs.Prelude.{ℕ, ◌≡◌, ◌⊎◌, ◌++◌, ◌∷◌, List, [], Contains, Option, None, Some}
use Rattle.fab_inventory.specs.declared.holder.Holder.{Holder}
use Rattle.fab_inventory.specs.declared.port.Port.{Port}
use Rattle.fab_reach_base.specs.Records.{Records}
use Rattle.fab_store_rows.specs.declared.config_row.ConfigRow.{ConfigRow}
use Rattle.fab_store_rows.specs.declared.config_row.ConfigRow.TheVariants as config
use Rattle.fab_store_rows.specs.declared.config_row.SettingRow.TheVariants as setting
use Rattle.fab_store_rows.specs.declared.inventory_row.HolderRow.{HolderRow}
use Rattle.fab_reach_books.specs.Rows.{Stands}
use Rattle.fab_reach_books.specs.declared.row.Row.{Row}
use Rattle.fab_reach_books.specs.declared.row.Row.TheVariants as row

-- the row was put at the end, unless P
abbrev pub IsPushed : Type 0 → Row → List Row → List Row → Type 0
IsPushed P r old new = (¬ P × (new ≡ old ++ r ∷ [])) ⊎ (P × (new ≡ old))

-- just the rows with Q that do not stand in v were put to the list
pub record Tells (v : Records) (Q : Row → Type 0) (old new : List Row) : Type 0 where
  pub sound : (r : Row) → Contains new r → Contains old r ⊎ (Q r × ¬ Stands v r)
  pub kept : (r : Row) → Contains old r → Contains new r
  pub there : (r : Row) → Q r → Stands v r ⊎ Contains new r

-- the row of a port that is known in w
abbrev pub IsPortRow : Records → Row → Type 0
IsPortRow w r = (p : Port) × (r ≡ row.Port p) × Stands w (row.Port p)

-- a holder with its name
abbrev pub holder_row : List ℕ → Holder → HolderRow
holder_row name h = record { name = name; kind = h.kind; tenant = h.tenant }

-- the row of a holder that is known in w
abbrev pub IsHolderRow : Records → Row → Type 0
IsHolderRow w r = (h : HolderRow) × (r ≡ row.Holder h) × Stands w (row.Holder h)

-- the row of a configuration, if paths follow from it
abbrev pub row_in : ConfigRow → Option Row
row_in (config.Setting (setting.ActiveSet f n)) = None
row_in (config.Setting (setting.DefaultZone f p)) = Some (row.DefaultZone f p)
row_in (config.Zoning r) = None
row_in (config.Active r) = Some (row.Active r)
row_in (config.Group r) = Some (row.Group r)
row_in (config.Part r) = Some (row.Part r)

-- the row is one of these
abbrev pub AreIn : List ConfigRow → Row → Type 0
AreIn cs r = (c : ConfigRow) × Contains cs c × (row_in c ≡ Some r)

-- the rows are those that stand in w and not in v
pub record AreOnlyIn (w v : Records) (rows : List Row) : Type 0 where
  pub sound : (r : Row) → Contains rows r → Stands w r × ¬ Stands v r
  pub there : (r : Row) → Stands w r → Stands v r ⊎ Contains rows r
