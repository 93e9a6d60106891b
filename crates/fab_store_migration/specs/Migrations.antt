-- Tables of schema 1, and what they become.
use Rattle.std.specs.Prelude.{◌≡◌, ◌≢◌, ◌⊎◌, false, List, IsTrue}
use Rattle.sqlite.specs.Order.{Row}
use Rattle.sqlite.specs.Effect.{Database}
use Rattle.sqlite.specs.Schema.{Schema}
use Rattle.sqlite.specs.State.{State}
use Rattle.fab_store_load.specs.declared.fault.Table.{Table}
use Rattle.fab_store_load.specs.declared.fault.Table.TheVariants as table
use Rattle.fab_store_tables.specs.Versions.{TellsVersion, IsMigrated}
use Rattle.fab_store_migration.specs.declared.judging.Shape.{Shape}
use Rattle.fab_store_migration.specs.declared.judging.Shape.TheVariants.{Present, Old, Other}
use Rattle.fab_store_sql.specs.NewDesk.{schema_first}
use Rattle.fab_store_sql.specs.Rows.{IsKeyed}
use Rattle.fab_store_sql.specs.Schema.{desk_schema}
use Rattle.fab_store_sql.specs.Trees.{tree_of, show_of, tables_of}

-- the tables of schema 1: all but the last
abbrev pub old_schema : Schema
old_schema = schema_first 12

-- the tables of the present schema, or of the one before
abbrev pub IsKnown : Schema → Type 0
IsKnown schema = (schema ≡ desk_schema) ⊎ (schema ≡ old_schema)

-- the connection is open and nothing is pending; it has the tables of schema 1, which tell it
pub record IsOld (s : State) : Type 0 where
  pub is_open : IsTrue s.is_open
  pub outside : s.in_transaction ≡ false
  pub same : s.now ≡ s.committed
  pub schema : s.now.schema ≡ old_schema
  pub version : TellsVersion (tables_of s.now.trees) 1

-- the connection is open and nothing is pending; it has the tables of the present schema
pub record IsPresent (s : State) : Type 0 where
  pub is_open : IsTrue s.is_open
  pub outside : s.in_transaction ≡ false
  pub same : s.now ≡ s.committed
  pub schema : s.now.schema ≡ desk_schema

-- ---- on the way

-- what a test tells of the tables
abbrev pub IsShaped : Schema → Shape → Type 0
IsShaped schema Present = schema ≡ desk_schema
IsShaped schema Old = schema ≡ old_schema
IsShaped schema Other = Unit {0}

-- the rowids of settings are keys
abbrev pub HasKeyedSettings : Database → Type 0
HasKeyedSettings d = IsKeyed (show_of table.Meta) (d.trees (tree_of table.Meta))

-- in a transaction that showed that the tables are those of schema 1, which tell it
pub record IsSeenOld (s : State) : Type 0 where
  pub is_open : IsTrue s.is_open
  pub schema : s.now.schema ≡ old_schema
  pub version : TellsVersion (tables_of s.now.trees) 1

-- in a transaction over the tables of schema 1
pub record IsBefore (s : State) : Type 0 where
  pub inside : IsTrue s.in_transaction
  pub schema : s.now.schema ≡ old_schema
  pub keyed : HasKeyedSettings s.now

-- in a transaction over the tables of the present schema
pub record IsRising (s : State) : Type 0 where
  pub inside : IsTrue s.in_transaction
  pub schema : s.now.schema ≡ desk_schema
  pub keyed : HasKeyedSettings s.now

-- the settings are changed, and no other table
pub record ChangesSettings (Change : List Row → List Row → Type 0) (old new : State) : Type 0 where
  pub change : Change (old.now.trees (tree_of table.Meta)) (new.now.trees (tree_of table.Meta))
  pub others : (t : Table) → t ≢ table.Meta → new.now.trees (tree_of t) ≡ old.now.trees (tree_of t)
  pub rising : IsRising new

-- in the transaction the tables of schema 1 were brought to the present one
pub record IsRaised (old new : State) : Type 0 where
  pub rising : IsRising new
  pub migrated : IsMigrated (tables_of old.now.trees) (tables_of new.now.trees)
