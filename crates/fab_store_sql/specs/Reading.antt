-- What a read shows of a table, and what it leaves.
use Rattle.std.specs.Prelude.{◌≡◌, ◌↔◌, ℕ, ◌<◌, ◌<ℤ◌, true, List, [], ◌∷◌, length, map, slice_index_or, IsTrue, Contains}
use Rattle.sqlite.specs.declared.types.Value.TheVariants.{Text}
use Rattle.sqlite.specs.Order.{Row, column}
use Rattle.sqlite.specs.Tree.{Trees, rowid}
use Rattle.sqlite.specs.Edit.{id_in}
use Rattle.sqlite.specs.State.{State, Shown}
use Rattle.sqlite_trees.specs.View.{is_int}
use Rattle.sqlite_rules.specs.Lists.{Has}
use Rattle.fab_store_load.specs.declared.fault.Table.{Table}
use Rattle.fab_store_sql.specs.Trees.{tree_of, show_of}

-- each row of the table with P, behind its rowid, and no other
pub record AreShown (t : Table) (P : Row → Type 0) (db : Trees) (rows : List Row) : Type 0 where
  pub sound : (x : Row) → Has rows x → (r : Row) × Has (db (tree_of t)) r × P (show_of t r) × (x ≡ rowid r ∷ show_of t r)
  pub complete : (r : Row) → Has (db (tree_of t)) r → P (show_of t r) → Has rows (rowid r ∷ show_of t r)

-- each row
abbrev pub IsAny : Row → Type 0
IsAny r = Unit {0}

-- a path of the host
abbrev pub IsOfHost : List ℕ → Row → Type 0
IsOfHost host r = column r 0 ≡ Text host

abbrev pub id_at : List Row → ℕ → Row
id_at rows k = slice_index_or rows k []

-- the rowids are numbers, and rise
pub record DoRise (rows : List Row) : Type 0 where
  pub ints : (k : ℕ) → k < length rows → is_int (rowid (id_at rows k)) ≡ true
  pub rise : (j k : ℕ) → j < k → k < length rows → id_in (rowid (id_at rows j)) <ℤ id_in (rowid (id_at rows k))

-- the lines are those of the rows with P: each such row is that of a line, and each line's row is one
abbrev pub AreLinesOf : {L : Type 0} → (L → Row) → (Row → Type 0) → List Row → List L → Type 0
AreLinesOf {L} row P rows lines = (r : Row) → (Contains rows r × P r) ↔ ((l : L) × Contains lines l × (row l ≡ r))

-- the lines are those of the rows that the query shows, one after the other
pub record AreStreamed {L : Type 0} (row : L → Row) (show : Row → Row) (text : List ℕ) (params : Row) (old new : State) (lines : List L) : Type 0 where
  pub rows : List Row
  pub shown : Shown text params old new rows
  pub told : map row lines ≡ map show rows

-- a connection with nothing pending is as it was, if it is still open
abbrev pub Stays : State → State → Type 0
Stays old new = (IsTrue old.is_open → old.now ≡ old.committed) → IsTrue new.is_open → IsTrue old.is_open × (new.now ≡ old.now) × (new.committed ≡ old.committed)
