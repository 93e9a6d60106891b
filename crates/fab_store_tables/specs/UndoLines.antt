-- Lines of the table of changes to undo, and the rows that they show.
use Rattle.std.specs.Prelude.{◌≡◌, ℕ, List, [], ◌∷◌, codes}
use Rattle.std.specs.List.{join_with_byte}
use Rattle.std.specs.Fmt.{signed_decimal}
use Rattle.fab_names.specs.Names.{SpellsName}
use Rattle.fab_store_rows.specs.declared.config_row.ConfigRow.{ConfigRow}
use Rattle.fab_store_rows.specs.declared.config_row.ConfigRow.TheVariants as row
use Rattle.fab_store_rows.specs.declared.record_row.Sign.{Sign}
use Rattle.fab_store_rows.specs.declared.record_row.Sign.TheVariants.{Taken, Added}
use Rattle.fab_store_rows.specs.declared.record_row.UndoRow.{UndoRow}
use Rattle.fab_store_columns.specs.MetaLines.{MetaColumns, ShowsSetting}
use Rattle.fab_store_columns.specs.ZoningLines.{ZoningColumns, ShowsZoning, ActiveColumns, ShowsActive}
use Rattle.fab_store_columns.specs.GroupLines.{GroupColumns, ShowsGroup, PartColumns, ShowsPart, HasUnitNumber}

-- the name of a row's table
abbrev pub table_text : ConfigRow → List ℕ
table_text (row.Setting r) = codes "meta"
table_text (row.Zoning r) = codes "zoning"
table_text (row.Active r) = codes "active"
table_text (row.Group r) = codes "groups"
table_text (row.Part r) = codes "group_parts"

-- the columns of lines in their order
abbrev pub meta_columns : MetaColumns → List (List ℕ)
meta_columns l = l.key ∷ l.value ∷ []

abbrev pub zoning_columns : ZoningColumns → List (List ℕ)
zoning_columns l = l.fabric ∷ l.kind ∷ l.name ∷ l.item ∷ []

abbrev pub active_columns : ActiveColumns → List (List ℕ)
active_columns l = l.fabric ∷ l.zone ∷ l.member ∷ []

abbrev pub group_columns : GroupColumns → List (List ℕ)
group_columns l = l.kind ∷ l.name ∷ l.tenant ∷ l.array ∷ signed_decimal l.exposed ∷ []

abbrev pub part_columns : PartColumns → List (List ℕ)
part_columns l = l.kind ∷ l.name ∷ l.part ∷ l.item ∷ l.volume ∷ []

-- the columns are those of a line that shows the row
abbrev pub ShowsColumns : List (List ℕ) → ConfigRow → Type 0
ShowsColumns columns (row.Setting r) = (l : MetaColumns) × (columns ≡ meta_columns l) × ShowsSetting l r
ShowsColumns columns (row.Zoning r) = (l : ZoningColumns) × (columns ≡ zoning_columns l) × ShowsZoning l r
ShowsColumns columns (row.Active r) = (l : ActiveColumns) × (columns ≡ active_columns l) × ShowsActive l r
ShowsColumns columns (row.Group r) = (l : GroupColumns) × (columns ≡ group_columns l) × ShowsGroup l r
ShowsColumns columns (row.Part r) = (l : PartColumns) × (columns ≡ part_columns l) × ShowsPart l r

-- an entry is the name of a row's table and the row's columns, joined by one space
pub record ShowsEntry (entry : List ℕ) (r : ConfigRow) : Type 0 where
  pub columns : List (List ℕ)
  pub shown : ShowsColumns columns r
  pub joined : entry ≡ join_with_byte 32 (table_text r ∷ columns)

-- - for a row that was taken away, + for one that was added
abbrev pub sign_text : Sign → List ℕ
sign_text Taken = codes "-"
sign_text Added = codes "+"

-- `undo`
pub record UndoColumns : Type 0 where
  pub plan : List ℕ
  pub sign : List ℕ
  pub entry : List ℕ

pub record ShowsUndo (l : UndoColumns) (r : UndoRow) : Type 0 where
  pub plan : SpellsName l.plan r.plan
  pub sign : l.sign ≡ sign_text r.sign
  pub entry : ShowsEntry l.entry r.row

-- a unit is within its range
abbrev pub HasUnitInRange : ConfigRow → Type 0
HasUnitInRange (row.Setting r) = Unit {0}
HasUnitInRange (row.Zoning r) = Unit {0}
HasUnitInRange (row.Active r) = Unit {0}
HasUnitInRange (row.Group r) = Unit {0}
HasUnitInRange (row.Part r) = HasUnitNumber r
