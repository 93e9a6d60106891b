-- What a connection has of the tables, and what statements do to them.
use Rattle.std.specs.Prelude.{◌≡◌, ◌≢◌, ◌⊎◌, ◌↔◌, false, List, IsTrue, Contains}
use Rattle.sqlite.specs.Order.{Row}
use Rattle.sqlite.specs.Effect.{Database, IsDatabase}
use Rattle.sqlite.specs.State.{State}
use Rattle.fab_store_load.specs.declared.fault.Table.{Table}
use Rattle.fab_store_tables.specs.declared.stored_line.TableLine.{TableLine}
use Rattle.fab_store_tables.specs.Tables.{Tables, table_of, row_of, key_of}
use Rattle.fab_store_sql.specs.Schema.{desk_schema}
use Rattle.fab_store_sql.specs.Rows.{IsKeyed}
use Rattle.fab_store_sql.specs.Trees.{tree_of, show_of, tables_of}

-- it has the tables of the schema and no others, and rowids are keys
pub record IsDesk (d : Database) : Type 0 where
  pub schema : d.schema ≡ desk_schema
  pub keyed : (t : Table) → IsKeyed (show_of t) (d.trees (tree_of t))

-- the tables of the schema, with nothing pending
pub record IsSettled (s : State) : Type 0 where
  pub outside : s.in_transaction ≡ false
  pub same : s.now ≡ s.committed
  pub desk : IsDesk s.now

-- so it is where the connection is open
abbrev pub IsReady : State → Type 0
IsReady s = IsTrue s.is_open → IsSettled s

-- the connection is open, and has the tables of the schema with nothing pending
pub record IsServing (s : State) : Type 0 where
  pub is_open : IsTrue s.is_open
  pub settled : IsSettled s
  pub sound : IsDatabase s.now

-- in a transaction over the tables of the schema
pub record IsInside (s : State) : Type 0 where
  pub inside : IsTrue s.in_transaction
  pub desk : IsTrue s.is_open → IsDesk s.now
  pub sound : IsTrue s.is_open → IsDatabase s.now

-- only this table is changed
pub record Alters (Change : List Row → List Row → Type 0) (t : Table) (old new : State) : Type 0 where
  pub change : Change (old.now.trees (tree_of t)) (new.now.trees (tree_of t))
  pub others : (other : Table) → other ≢ t → new.now.trees (tree_of other) ≡ old.now.trees (tree_of other)
  pub inside : IsInside new

-- the row is that of the line
abbrev pub IsOf : {A : Type 0} → TableLine A → Table → Row → Type 0
IsOf l t r = (table_of l ≡ t) × (row_of l ≡ r)

-- the row has the key of the line
abbrev pub HasKey : {A : Type 0} → TableLine A → Table → Row → Type 0
HasKey l t r = (table_of l ≡ t) × (key_of t r ≡ key_of t (row_of l))

-- the row has the key of one of the lines
abbrev pub HasKeyAmong : {A : Type 0} → List (TableLine A) → Table → Row → Type 0
HasKeyAmong {A} lines t r = (l : TableLine A) × Contains lines l × HasKey l t r

-- the rows with P are gone
abbrev pub Loses : (Table → Row → Type 0) → Tables → Tables → Type 0
Loses P old new = (t : Table) (r : Row) → Contains (new t) r ↔ (Contains (old t) r × ¬ P t r)

-- the rows with P are there too
abbrev pub Gains : (Table → Row → Type 0) → Tables → Tables → Type 0
Gains P old new = (t : Table) (r : Row) → Contains (new t) r ↔ (Contains (old t) r ⊎ P t r)

-- inside a transaction the tables are changed so
pub record Walks (Change : Tables → Tables → Type 0) (old new : State) : Type 0 where
  pub change : Change (tables_of old.now.trees) (tables_of new.now.trees)
  pub inside : IsInside new
