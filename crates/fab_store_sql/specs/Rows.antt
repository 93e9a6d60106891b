-- The rows of a table as a set, by what is shown of them.
use Rattle.std.specs.Prelude.{◌≡◌, ◌⊎◌, true, List}
use Rattle.std.specs.declared.cmp.Ordering.TheVariants.{Equal}
use Rattle.sqlite.specs.Order.{Row, value_cmp}
use Rattle.sqlite.specs.Tree.{rowid}
use Rattle.sqlite_trees.specs.View.{is_int}
use Rattle.sqlite_rules.specs.Lists.{Has}

-- the table has a row that shows these columns
abbrev pub Holds : (Row → Row) → List Row → Row → Type 0
Holds show rows columns = (r : Row) × Has rows r × (columns ≡ show r)

-- the rowids are numbers, and no two rows that differ have one
pub record IsKeyed (show : Row → Row) (rows : List Row) : Type 0 where
  pub once : (a b : Row) → Has rows a → Has rows b → value_cmp (rowid a) (rowid b) ≡ Equal → show a ≡ show b
  pub keyed : (r : Row) → Has rows r → is_int (rowid r) ≡ true

-- the table has one row more
pub record Adds (show : Row → Row) (columns : Row) (old new : List Row) : Type 0 where
  pub there : Holds show new columns
  pub kept : (c : Row) → Holds show old c → Holds show new c
  pub from : (c : Row) → Holds show new c → (c ≡ columns) ⊎ Holds show old c
  pub keyed : IsKeyed show old → IsKeyed show new

-- the table has no more the rows that pass the test, and the others
pub record Removes (show : Row → Row) (Test : Row → Type 0) (old new : List Row) : Type 0 where
  pub gone : (c : Row) → Holds show new c → ¬ Test c
  pub kept : (c : Row) → Holds show old c → (¬ Test c) → Holds show new c
  pub from : (c : Row) → Holds show new c → Holds show old c
  pub keyed : IsKeyed show new
