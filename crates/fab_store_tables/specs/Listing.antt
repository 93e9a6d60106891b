-- The lines of the rows of all tables.
use Rattle.std.specs.Prelude.{◌↔◌, List, [], ◌∷◌, ◌++◌, map, Contains}
use Rattle.fab_store_rows.specs.declared.table_rows.TableRows.{TableRows}
use Rattle.fab_store_tables.specs.Tables.{AreOnce}
use Rattle.fab_store_tables.specs.declared.stored_line.TableLine.{TableLine}
use Rattle.fab_store_tables.specs.Rows.{AnyRow, count, port, address, holder, volume, config_row, plan, approval, undo, path, ShowsRow, IsInRange}

-- the schema and the revision, and the rows of an inventory
abbrev pub inventory_rows : {A : Type 0} → TableRows A → List AnyRow
inventory_rows t = map count t.counts.items ++ (map port t.ports.items ++ (map address t.addresses.items ++ (map holder t.holders.items ++ map volume t.volumes.items)))

-- the rows of a configuration, and of plans and their approvals
abbrev pub config_rows : {A : Type 0} → TableRows A → List AnyRow
config_rows t = map config_row t.config.items ++ (map plan t.plans.items ++ map approval t.approvals.items)

-- the rows of changes to undo, and of paths
abbrev pub record_rows : {A : Type 0} → TableRows A → List AnyRow
record_rows t = map undo t.undo.items ++ map path t.paths.items

-- the rows of all tables
abbrev pub all_rows : {A : Type 0} → TableRows A → List AnyRow
all_rows t = inventory_rows t ++ (config_rows t ++ record_rows t)

-- no two places of the list have one item
abbrev pub AreDistinct : {X : Type 0} → List X → Type 0
AreDistinct [] = Unit {0}
AreDistinct (x ∷ xs) = (¬ Contains xs x) × AreDistinct xs

-- the lines are those that show one of the rows, each once if each row is there once; each row whose
-- numbers are within their range has one
pub record AreLinesOf {A : Type 0} (rows : List AnyRow) (lines : List (TableLine A)) : Type 0 where
  pub are : (l : TableLine A) → Contains lines l ↔ ((x : AnyRow) × Contains rows x × ShowsRow x l)
  pub shown : (x : AnyRow) → Contains rows x → IsInRange x → (l : TableLine A) × ShowsRow x l
  pub once : AreDistinct rows → AreOnce lines

-- the lines are the old ones, and those of these rows
abbrev pub Adds : {A : Type 0} → List AnyRow → List (TableLine A) → List (TableLine A) → Type 0
Adds rows old new = (before : List AnyRow) → AreLinesOf before old → AreLinesOf (before ++ rows) new
