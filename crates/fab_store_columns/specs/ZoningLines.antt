-- Lines of the tables of zoning items and of active rows, and the rows that they show.
use Rattle.std.specs.Prelude.{◌≡◌, ℕ, List, codes}
use Rattle.fab_names.specs.Names.{SpellsName}
use Rattle.fab_names.specs.Fabrics.{SpellsFabric}
use Rattle.fab_names.specs.Members.{SpellsPrinted}
use Rattle.fab_store_rows.specs.declared.config_row.ZoningItem.{ZoningItem}
use Rattle.fab_store_rows.specs.declared.config_row.ZoningItem.TheVariants.{Alias, Zone, Set}
use Rattle.fab_store_rows.specs.declared.config_row.ZoningRow.{ZoningRow}
use Rattle.fab_store_rows.specs.declared.config_row.ActiveRow.{ActiveRow}

-- `zoning`
pub record ZoningColumns : Type 0 where
  pub fabric : List ℕ
  pub kind : List ℕ
  pub name : List ℕ
  pub item : List ℕ

-- the word of the kind of what has the item
abbrev pub kind_of_item : ZoningItem → List ℕ
kind_of_item (Alias name member) = codes "alias"
kind_of_item (Zone name member) = codes "zone"
kind_of_item (Set name zone) = codes "set"

-- the name of what has the item
abbrev pub name_of_item : ZoningItem → List ℕ
name_of_item (Alias name member) = name
name_of_item (Zone name member) = name
name_of_item (Set name zone) = name

-- a member in its printed form, or the name of a zone
abbrev pub ShowsItem : List ℕ → ZoningItem → Type 0
ShowsItem text (Alias name member) = SpellsPrinted text member
ShowsItem text (Zone name member) = SpellsPrinted text member
ShowsItem text (Set name zone) = SpellsName text zone

-- an item in three columns
pub record ShowsItemAt (word owner text : List ℕ) (r : ZoningItem) : Type 0 where
  pub kind : word ≡ kind_of_item r
  pub name : SpellsName owner (name_of_item r)
  pub item : ShowsItem text r

pub record ShowsZoning (l : ZoningColumns) (r : ZoningRow) : Type 0 where
  pub fabric : SpellsFabric l.fabric r.fabric
  pub item : ShowsItemAt l.kind l.name l.item r.item

-- `active`
pub record ActiveColumns : Type 0 where
  pub fabric : List ℕ
  pub zone : List ℕ
  pub member : List ℕ

pub record ShowsActive (l : ActiveColumns) (r : ActiveRow) : Type 0 where
  pub fabric : SpellsFabric l.fabric r.fabric
  pub zone : SpellsName l.zone r.zone
  pub member : SpellsPrinted l.member r.member

-- lines of these columns
abbrev pub zoning_line : List ℕ → List ℕ → List ℕ → List ℕ → ZoningColumns
zoning_line fabric kind name item = record { fabric = fabric; kind = kind; name = name; item = item }

abbrev pub active_line : List ℕ → List ℕ → List ℕ → ActiveColumns
active_line fabric zone member = record { fabric = fabric; zone = zone; member = member }
