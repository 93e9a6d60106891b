use Rattle.std.proofs.Common.{◌≡◌, ℕ, ◌<◌, ◌<ℤ◌, ◌≤ℤ◌, true}
use Rattle.sqlite.specs.Tree.{rowid}
use Rattle.sqlite.specs.Edit.{id_in}
use Rattle.sqlite_trees.specs.View.{is_int}
use Rattle.fab_store_sql.specs.Reading.{id_at}
use Rattle.fab_store_sql.proofs.read.rise.Given as goal

abbrev pub invariant-loop-row : goal.invariant-loop-row
invariant-loop-row l = record {
  ints : (k : ℕ) → k < l.row-index → is_int (rowid (id_at l.rows k)) ≡ true;
  below : (k : ℕ) → k < l.row-index → id_in (rowid (id_at l.rows k)) ≤ℤ l.last;
  rise : (j k : ℕ) → j < k → k < l.row-index → id_in (rowid (id_at l.rows j)) <ℤ id_in (rowid (id_at l.rows k));
}
