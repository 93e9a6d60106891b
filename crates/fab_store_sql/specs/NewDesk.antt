-- The tables of a new desk, and how they are made.
use Rattle.std.specs.Prelude.{◌≡◌, ◌↔◌, ◌<◌, ◌+◌, ℕ, false, List, [], ◌∷◌, map, take, IsTrue, Contains, codes}
use Rattle.sqlite.specs.Order.{Row}
use Rattle.sqlite.specs.Schema.{Schema}
use Rattle.sqlite.specs.State.{State}
use Rattle.fab_store_load.specs.declared.fault.Table.{Table}
use Rattle.fab_store_load.specs.declared.fault.Table.TheVariants as table
use Rattle.fab_store_columns.specs.MetaLines.{meta_line}
use Rattle.fab_store_tables.specs.Tables.{Tables, IsAmong, row_of}
use Rattle.fab_store_tables.specs.declared.stored_line.TableLine.{TableLine}
use Rattle.fab_store_tables.specs.declared.stored_line.TableLine.TheVariants as line
use Rattle.fab_store_sql.specs.Schema.{all_tables, place_of, tree_of, schema_of}

-- the first tables of the schema
abbrev pub schema_first : ℕ → Schema
schema_first n = schema_of (take n all_tables)

-- in a transaction, with so many tables of the schema
pub record HasFirst (n : ℕ) (s : State) : Type 0 where
  pub inside : IsTrue s.in_transaction
  pub schema : s.now.schema ≡ schema_first n

-- one table more, which is empty; those before it have the rows that they had
pub record IsOneMore (t : Table) (old new : State) : Type 0 where
  pub first : HasFirst (place_of t + 1) new
  pub none : new.now.trees (tree_of t) ≡ []
  pub kept : (other : Table) → place_of other < place_of t → new.now.trees (tree_of other) ≡ old.now.trees (tree_of other)

-- in a transaction, with so many tables of the schema, which are empty
pub record HasMade (n : ℕ) (s : State) : Type 0 where
  pub inside : IsTrue s.in_transaction
  pub schema : s.now.schema ≡ schema_first n
  pub empty : (t : Table) → place_of t < n → s.now.trees (tree_of t) ≡ []

-- the setting with this key
abbrev pub setting : {A : Type 0} → List ℕ → List ℕ → TableLine A
setting key value = line.Meta (meta_line key value)

-- the lines of a new desk: schema 2 at revision 0, no zone set active, and default zones that deny
abbrev pub new_lines : {A : Type 0} → List (TableLine A)
new_lines = setting (codes "schema") (codes "2") ∷ setting (codes "revision") (codes "0") ∷ setting (codes "active.A") (codes "") ∷ setting (codes "active.B") (codes "")
    ∷ setting (codes "default.A") (codes "deny") ∷ setting (codes "default.B") (codes "deny") ∷ []

-- the tables have just the rows of these lines
abbrev pub HaveJust : {A : Type 0} → List (TableLine A) → Tables → Type 0
HaveJust lines tables = (t : Table) (r : Row) → Contains (tables t) r ↔ IsAmong lines t r

-- the rows of each table of a new desk
abbrev pub new_rows : Table → List Row
new_rows table.Meta = map (row_of {A = Unit {0}}) new_lines
new_rows _ = []

abbrev pub IsNewDesk : Tables → Type 0
IsNewDesk tables = (t : Table) (r : Row) → Contains (tables t) r ↔ Contains (new_rows t) r

-- nothing is pending, and there is no table
pub record IsBlank (s : State) : Type 0 where
  pub outside : s.in_transaction ≡ false
  pub same : IsTrue s.is_open → s.now ≡ s.committed
  pub schema : s.now.schema ≡ schema_first 0
