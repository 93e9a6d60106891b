-- What calls that only read leave of a connection, and what they tell.
use Rattle.std.specs.Prelude.{◌≡◌, ◌↔◌, false, List, IsTrue, Contains}
use Rattle.sqlite.specs.Effect.{Database}
use Rattle.sqlite.specs.Order.{Row}
use Rattle.sqlite.specs.State.{State, HasCleanDisk, Survives}
use Rattle.fab_store_load.specs.declared.fault.Table.{Table}
use Rattle.fab_store_tables.specs.Tables.{Tables}
use Rattle.fab_store_sql.specs.Reading.{IsAny, AreLinesOf, Stays}
use Rattle.fab_store_sql.specs.Rows.{IsKeyed}
use Rattle.fab_store_sql.specs.Schema.{desk_schema}
use Rattle.fab_store_sql.specs.Trees.{tree_of, show_of, tables_of}
use Rattle.fab_store_base.specs.Opened as lines
use Rattle.fab_store_tables.specs.declared.lines.TableLines.{TableLines}

-- a crash leaves nothing that it did not leave before, and a connection with nothing pending is as it
-- was, if it is still open
pub record OnlyReads (old new : State) : Type 0 where
  pub survives : Survives old new (λ _. ⊥)
  pub stays : HasCleanDisk new → Stays old new
  pub outside : old.in_transaction ≡ false → new.in_transaction ≡ false

-- the connection was open and is, and sees the same
pub record SeesSame (old new : State) : Type 0 where
  pub was_open : IsTrue old.is_open
  pub is_open : IsTrue new.is_open
  pub now : new.now ≡ old.now
  pub committed : new.committed ≡ old.committed

-- the lines are those of the table, and its rowids are keys
pub record IsTableOf {L : Type 0} (place : Table) (row : L → Row) (found : List L) (db : Database) : Type 0 where
  pub schema : db.schema ≡ desk_schema
  pub keyed : IsKeyed (show_of place) (db.trees (tree_of place))
  pub are : AreLinesOf row IsAny (tables_of db.trees place) found

-- the tables have the same rows
abbrev pub HaveSame : Tables → Tables → Type 0
HaveSame a b = (t : Table) (r : Row) → Contains (a t) r ↔ Contains (b t) r

-- the lines are those of all tables of the schema, and rowids are keys
pub record AreTablesOf (found : TableLines) (db : Database) : Type 0 where
  pub schema : db.schema ≡ desk_schema
  pub keyed : (t : Table) → IsKeyed (show_of t) (db.trees (tree_of t))
  pub rows : HaveSame (tables_of db.trees) (lines.tables_of found)
