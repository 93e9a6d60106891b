-- The rows that list parts of groups, and ports of holders. No public contract names anything of this
-- file.
use Rattle.std.specs.Prelude.{ℕ, ◌≡◌, List, Contains, Some, Bool, true}
use Rattle.std.specs.FinMap as map
use Rattle.fab_mapping_base.specs.Groups.{StorageGroupRows}
use Rattle.fab_store_rows.specs.declared.config_row.GroupRow.TheVariants as group
use Rattle.fab_store_rows.specs.declared.config_row.StorageGroupRow.{StorageGroupRow}
use Rattle.fab_reach_base.specs.Records.{Records}
use Rattle.fab_reach_books.specs.Rows.{Stands}
use Rattle.fab_inventory.specs.declared.port.Port.{Port}
use Rattle.fab_store_rows.specs.declared.config_row.StoragePart.TheVariants as part
use Rattle.fab_store_rows.specs.declared.config_row.PartRow.TheVariants as parts
use Rattle.fab_reach_moves.specs.declared.lists_after.Listed.{Listed}
use Rattle.fab_reach_moves.specs.declared.lists_after.Listed.TheVariants.{HostGroups, Hosts}
use Rattle.fab_reach_books.specs.declared.row.Row.{Row}
use Rattle.fab_reach_books.specs.declared.row.Row.TheVariants as row

-- the row that lists the name
abbrev pub name_row : Listed → List ℕ → Row
name_row (HostGroups n) k = row.Part (parts.Storage n (part.HostGroup k))
name_row (Hosts k) h = row.Part (parts.Host k h)

-- the row that lists the target
abbrev pub target_row : List ℕ → ℕ → Row
target_row n q = row.Part (parts.Storage n (part.Target q))

-- the storage group of this name serves the host
abbrev pub IsHostOf : Records → List ℕ → List ℕ → Type 0
IsHostOf v n h = (k : List ℕ) × Stands v (name_row (HostGroups n) k) × Stands v (name_row (Hosts k) h)

-- the row says the port, and that the holder holds it
abbrev pub SaysHeld : Row → List ℕ → ℕ → Type 0
SaysHeld r h q = (p : Port) × (r ≡ row.Port p) × (p.holder ≡ Some h) × (p.name ≡ q)

-- none of the rows is one of the port
abbrev pub NamesNoPort : List Row → ℕ → Type 0
NamesNoPort rows name = (p : Port) → Contains rows (row.Port p) → ¬ (p.name ≡ name)

-- the storage group of this name is exposed
abbrev pub IsExposedIn : Records → List ℕ → Type 0
IsExposedIn v n = (g : StorageGroupRows) × (map.get v.config.mapping.groups n ≡ Some g) × (g.exposed ≡ true)

-- the row says the storage group of this name, and whether it is exposed
abbrev pub SaysHead : Row → List ℕ → Bool → Type 0
SaysHead r n e = (x : StorageGroupRow) × (r ≡ row.Group (group.Storage x)) × (x.name ≡ n) × (x.exposed ≡ e)

-- some of the rows does
abbrev pub SaysHeadAmong : List Row → List ℕ → Bool → Type 0
SaysHeadAmong rows n e = (r : Row) × Contains rows r × SaysHead r n e

-- the row that says a volume of the storage group at a unit
abbrev pub unit_row : List ℕ → ℕ → List ℕ → Row
unit_row n u x = row.Part (parts.Storage n (part.Unit u x))

-- some of the rows is such
abbrev pub SaysUnit : List Row → List ℕ → Type 0
SaysUnit rows n = (u : ℕ) × (x : List ℕ) × Contains rows (unit_row n u x)

-- if the storage group is there in both worlds, the flag says whether it has the same units
abbrev pub TellsUnits : Records → Records → List ℕ → Bool → Type 0
TellsUnits w v n same =
    (g h : StorageGroupRows) → map.get w.config.mapping.groups n ≡ Some g → map.get v.config.mapping.groups n ≡ Some h → (same ≡ true → h.units ≡ g.units) × (h.units ≡ g.units → same ≡ true)
