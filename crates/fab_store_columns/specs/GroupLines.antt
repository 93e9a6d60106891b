-- Lines of the tables of groups and of their parts, and the rows that they show.
use Rattle.std.specs.Prelude.{◌≡◌, ◌≤◌, ℕ, ℤ, List, [], Bool, false, codes}
use Rattle.fab_names.specs.Names.{SpellsName}
use Rattle.fab_names.specs.WorldWideNames.{SpellsPlain}
use Rattle.fab_mapping_base.specs.Limits.{last_unit}
use Rattle.fab_store_rows.specs.declared.config_row.GroupRow.{GroupRow}
use Rattle.fab_store_rows.specs.declared.config_row.GroupRow.TheVariants as group
use Rattle.fab_store_rows.specs.declared.config_row.StoragePart.TheVariants as part
use Rattle.fab_store_rows.specs.declared.config_row.PartRow.{PartRow}
use Rattle.fab_store_rows.specs.declared.config_row.PartRow.TheVariants as parts
use Rattle.fab_store_columns_base.specs.Columns.{ShowsDecimal, flag_number}

-- ---- `groups`

pub record GroupColumns : Type 0 where
  pub kind : List ℕ
  pub name : List ℕ
  pub tenant : List ℕ
  pub array : List ℕ
  pub exposed : ℤ

-- the word of the kind of a group
abbrev pub kind_of_group : GroupRow → List ℕ
kind_of_group (group.Host r) = codes "host"
kind_of_group (group.Storage r) = codes "storage"

abbrev pub name_of_group : GroupRow → List ℕ
name_of_group (group.Host r) = r.name
name_of_group (group.Storage r) = r.name

abbrev pub tenant_of_group : GroupRow → List ℕ
tenant_of_group (group.Host r) = r.tenant
tenant_of_group (group.Storage r) = r.tenant

-- a host group has the empty text as its array
abbrev pub ShowsArray : List ℕ → GroupRow → Type 0
ShowsArray text (group.Host r) = text ≡ []
ShowsArray text (group.Storage r) = SpellsName text r.array

-- and 0 as exposed
abbrev pub is_exposed : GroupRow → Bool
is_exposed (group.Host r) = false
is_exposed (group.Storage r) = r.exposed

pub record ShowsGroup (l : GroupColumns) (r : GroupRow) : Type 0 where
  pub kind : l.kind ≡ kind_of_group r
  pub name : SpellsName l.name (name_of_group r)
  pub tenant : SpellsName l.tenant (tenant_of_group r)
  pub array : ShowsArray l.array r
  pub exposed : l.exposed ≡ flag_number (is_exposed r)

-- a line of these columns
abbrev pub group_line : List ℕ → List ℕ → List ℕ → List ℕ → ℤ → GroupColumns
group_line kind name tenant array exposed = record { kind = kind; name = name; tenant = tenant; array = array; exposed = exposed }

-- ---- `group_parts`

pub record PartColumns : Type 0 where
  pub kind : List ℕ
  pub name : List ℕ
  pub part : List ℕ
  pub item : List ℕ
  pub volume : List ℕ

-- the word of the kind of the group that has the part
abbrev pub kind_of_owner : PartRow → List ℕ
kind_of_owner (parts.Host name host) = codes "host"
kind_of_owner (parts.Storage name p) = codes "storage"

-- the name of the group that has the part
abbrev pub name_of_owner : PartRow → List ℕ
name_of_owner (parts.Host name host) = name
name_of_owner (parts.Storage name p) = name

-- the word of the kind of part
abbrev pub part_word : PartRow → List ℕ
part_word (parts.Host name host) = codes "host"
part_word (parts.Storage name (part.HostGroup hosts)) = codes "hostgroup"
part_word (parts.Storage name (part.Target target)) = codes "target"
part_word (parts.Storage name (part.Unit unit volume)) = codes "unit"

-- the name of a host or of a host group, the digits of a target, the decimal digits of a unit
abbrev pub ShowsPartItem : List ℕ → PartRow → Type 0
ShowsPartItem text (parts.Host name host) = SpellsName text host
ShowsPartItem text (parts.Storage name (part.HostGroup hosts)) = SpellsName text hosts
ShowsPartItem text (parts.Storage name (part.Target target)) = SpellsPlain text target
ShowsPartItem text (parts.Storage name (part.Unit unit volume)) = ShowsDecimal last_unit text unit

-- the name of a unit's volume, and the empty text for other parts
abbrev pub ShowsPartVolume : List ℕ → PartRow → Type 0
ShowsPartVolume text (parts.Host name host) = text ≡ []
ShowsPartVolume text (parts.Storage name (part.HostGroup hosts)) = text ≡ []
ShowsPartVolume text (parts.Storage name (part.Target target)) = text ≡ []
ShowsPartVolume text (parts.Storage name (part.Unit unit volume)) = SpellsName text volume

-- a part in three columns
pub record ShowsPartAt (word text other : List ℕ) (r : PartRow) : Type 0 where
  pub part : word ≡ part_word r
  pub item : ShowsPartItem text r
  pub volume : ShowsPartVolume other r

pub record ShowsPart (l : PartColumns) (r : PartRow) : Type 0 where
  pub kind : l.kind ≡ kind_of_owner r
  pub name : SpellsName l.name (name_of_owner r)
  pub part : ShowsPartAt l.part l.item l.volume r

-- a line of these columns
abbrev pub part_line : List ℕ → List ℕ → List ℕ → List ℕ → List ℕ → PartColumns
part_line kind name part item volume = record { kind = kind; name = name; part = part; item = item; volume = volume }

-- a unit is within its range
abbrev pub HasUnitNumber : PartRow → Type 0
HasUnitNumber (parts.Host name host) = Unit {0}
HasUnitNumber (parts.Storage name (part.HostGroup hosts)) = Unit {0}
HasUnitNumber (parts.Storage name (part.Target target)) = Unit {0}
HasUnitNumber (parts.Storage name (part.Unit unit volume)) = unit ≤ last_unit
