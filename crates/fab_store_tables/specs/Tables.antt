-- The tables of a store, and what it is to change them.
use Rattle.std.specs.Prelude.{◌≡◌, ◌⊎◌, ◌↔◌, ℕ, List, [], ◌∷◌, Contains, slice_get, Some}
use Rattle.sqlite.specs.Order.{Row, column}
use Rattle.fab_store_load.specs.declared.fault.Table.{Table}
use Rattle.fab_store_load.specs.declared.fault.Table.TheVariants as table
use Rattle.fab_store_tables.specs.Columns.{meta_row, port_row, address_row, holder_row, volume_row, zoning_row, active_row, group_row, part_row, plan_row, approval_row, undo_row, path_row}
use Rattle.fab_store_tables.specs.declared.changes.LineChanges.{LineChanges}
use Rattle.fab_store_tables.specs.declared.stored_line.TableLine.{TableLine}
use Rattle.fab_store_tables.specs.declared.stored_line.TableLine.TheVariants as line

-- the rows of each table, by their columns; only which rows there are counts
abbrev pub Tables : Type 0
Tables = Table → List Row

-- the table of a line
abbrev pub table_of : {A : Type 0} → TableLine A → Table
table_of (line.Meta l) = table.Meta
table_of (line.Port l) = table.Ports
table_of (line.Address l) = table.Addresses
table_of (line.Holder l) = table.Holders
table_of (line.Volume l) = table.Volumes
table_of (line.Zoning l) = table.Zoning
table_of (line.Active l) = table.Active
table_of (line.Group l) = table.Groups
table_of (line.Part l) = table.GroupParts
table_of (line.Plan l) = table.Plans
table_of (line.Approval l) = table.Approvals
table_of (line.Undo l) = table.Undo
table_of (line.Path l) = table.Paths

-- the row of a line
abbrev pub row_of : {A : Type 0} → TableLine A → Row
row_of (line.Meta l) = meta_row l
row_of (line.Port l) = port_row l
row_of (line.Address l) = address_row l
row_of (line.Holder l) = holder_row l
row_of (line.Volume l) = volume_row l
row_of (line.Zoning l) = zoning_row l
row_of (line.Active l) = active_row l
row_of (line.Group l) = group_row l
row_of (line.Part l) = part_row l
row_of (line.Plan l) = plan_row l
row_of (line.Approval l) = approval_row l
row_of (line.Undo l) = undo_row l
row_of (line.Path l) = path_row l

-- the columns of the key of a table
abbrev pub key_of : Table → Row → Row
key_of table.Meta r = column r 0 ∷ []
key_of table.Ports r = column r 0 ∷ []
key_of table.Addresses r = column r 0 ∷ []
key_of table.Holders r = column r 0 ∷ []
key_of table.Volumes r = column r 0 ∷ []
key_of table.Zoning r = column r 0 ∷ column r 1 ∷ column r 2 ∷ column r 3 ∷ []
key_of table.Active r = column r 0 ∷ column r 1 ∷ column r 2 ∷ []
key_of table.Groups r = column r 0 ∷ column r 1 ∷ []
key_of table.GroupParts r = column r 0 ∷ column r 1 ∷ column r 2 ∷ column r 3 ∷ []
key_of table.Plans r = column r 0 ∷ []
key_of table.Approvals r = column r 0 ∷ column r 1 ∷ []
key_of table.Undo r = column r 0 ∷ column r 1 ∷ column r 2 ∷ []
key_of table.Paths r = column r 0 ∷ column r 1 ∷ column r 2 ∷ column r 3 ∷ column r 4 ∷ column r 5 ∷ []

-- no two rows of a table have one key
abbrev pub HaveKeys : Tables → Type 0
HaveKeys tables = (t : Table) (r s : Row) → Contains (tables t) r → Contains (tables t) s → key_of t r ≡ key_of t s → r ≡ s

-- the row is that of one of the lines, which is of the table
abbrev pub IsAmong : {A : Type 0} → List (TableLine A) → Table → Row → Type 0
IsAmong {A} lines t r = (l : TableLine A) × Contains lines l × (table_of l ≡ t) × (row_of l ≡ r)

-- no two of the lines have one row of one table
abbrev pub AreOnce : {A : Type 0} → List (TableLine A) → Type 0
AreOnce {A} lines = (i j : ℕ) (l m : TableLine A) → slice_get lines i ≡ Some l → slice_get lines j ≡ Some m → table_of l ≡ table_of m → row_of l ≡ row_of m → i ≡ j

-- the changes may be made: keys are keys, each row to be removed is there, none to be added is, and no
-- row is to be removed twice, or added twice
pub record CanChange {A : Type 0} (c : LineChanges A) (tables : Tables) : Type 0 where
  pub keyed : HaveKeys tables
  pub there : (t : Table) (r : Row) → IsAmong c.removed.items t r → Contains (tables t) r
  pub absent : (t : Table) (r : Row) → IsAmong c.added.items t r → ¬ Contains (tables t) r
  pub removed_once : AreOnce c.removed.items
  pub added_once : AreOnce c.added.items

-- the tables after the changes: the rows before but for the removed ones, and the added ones
abbrev pub AreChanged : {A : Type 0} → LineChanges A → Tables → Tables → Type 0
AreChanged c old new = (t : Table) (r : Row) → Contains (new t) r ↔ ((Contains (old t) r × ¬ IsAmong c.removed.items t r) ⊎ IsAmong c.added.items t r)
