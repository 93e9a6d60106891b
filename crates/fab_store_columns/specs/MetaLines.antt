-- Lines of the table of settings, and the rows that they show.
use Rattle.std.specs.Prelude.{◌≡◌, ◌≤◌, ℕ, List, [], Option, None, Some, Bool, codes}
use Rattle.fab_names.specs.Names.{SpellsName}
use Rattle.fab_names.specs.declared.fabric.Fabric.TheVariants.{A, B}
use Rattle.fab_reach_base.specs.fab_zoning.Zonings.{flag_of, flag_text}
use Rattle.fab_store_rows.specs.declared.config_row.SettingRow.{SettingRow}
use Rattle.fab_store_rows.specs.declared.config_row.SettingRow.TheVariants.{ActiveSet, DefaultZone}
use Rattle.fab_store_columns_base.specs.Columns.{ShowsDecimal}
use Rattle.fab_store_columns.specs.declared.meta_lines.MetaRow.{MetaRow}
use Rattle.fab_store_columns.specs.declared.meta_lines.MetaRow.TheVariants.{Schema, Revision, Setting}
use Rattle.fab_store_columns_base.specs.Limits.{most_number}

-- `meta`
pub record MetaColumns : Type 0 where
  pub key : List ℕ
  pub value : List ℕ

-- the keys of a fabric
abbrev pub setting_key : SettingRow → List ℕ
setting_key (ActiveSet A name) = codes "active.A"
setting_key (ActiveSet B name) = codes "active.B"
setting_key (DefaultZone A permit) = codes "default.A"
setting_key (DefaultZone B permit) = codes "default.B"

-- the name of the active zone set, or the empty text where none is active
abbrev pub ShowsActiveName : List ℕ → Option (List ℕ) → Type 0
ShowsActiveName text None = text ≡ []
ShowsActiveName text (Some name) = SpellsName text name

-- whether the default zone permits
abbrev pub permit_text : Bool → List ℕ
permit_text permit = flag_text (flag_of permit)

abbrev pub ShowsSettingValue : List ℕ → SettingRow → Type 0
ShowsSettingValue text (ActiveSet fabric name) = ShowsActiveName text name
ShowsSettingValue text (DefaultZone fabric permit) = text ≡ permit_text permit

-- a setting of a fabric
pub record ShowsSetting (l : MetaColumns) (r : SettingRow) : Type 0 where
  pub key : l.key ≡ setting_key r
  pub value : ShowsSettingValue l.value r

-- the number of the schema, the revision, or a setting of a fabric
abbrev pub ShowsMeta : MetaColumns → MetaRow → Type 0
ShowsMeta l (Schema n) = (l.key ≡ codes "schema") × ShowsDecimal most_number l.value n
ShowsMeta l (Revision n) = (l.key ≡ codes "revision") × ShowsDecimal most_number l.value n
ShowsMeta l (Setting r) = ShowsSetting l r

-- a line of these columns
abbrev pub meta_line : List ℕ → List ℕ → MetaColumns
meta_line key value = record { key = key; value = value }

-- the row's number is one that a database keeps
abbrev pub IsKeptNumber : MetaRow → Type 0
IsKeptNumber (Schema n) = n ≤ most_number
IsKeptNumber (Revision n) = n ≤ most_number
IsKeptNumber (Setting r) = Unit {0}
