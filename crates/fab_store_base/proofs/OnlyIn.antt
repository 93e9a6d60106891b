-- Lines of the rows that stand in one world and not in another.
use Rattle.std.proofs.Common.{◌≡◌, ◌↔◌, List, Contains, subst}
use Rattle.sqlite.specs.Order.{Row}
use Rattle.fab_store_world.specs.Standing.{IsOrdered}
use Rattle.fab_store_world.specs.Tables.{AreChanges}
use Rattle.fab_store_world.specs.declared.tables.Changes.{Changes}
use Rattle.fab_store_load.specs.declared.fault.Table.{Table}
use Rattle.fab_store_tables.specs.Listing.{AreDistinct, AreLinesOf, all_rows}
use Rattle.fab_store_tables.specs.Rows.{AnyRow}
use Rattle.fab_store_base.proofs.Listed.{rows_are, rows_distinct}
use Rattle.fab_store_base.proofs.Shown.{stands_in, stands_out, standing}
use Rattle.fab_store_base.specs.Standing.{StandsOnlyIn}
use Rattle.fab_store_base.specs.Worlds.{StandsIn}
use Rattle.fab_store_tables.specs.Tables.{table_of, row_of, IsAmong, AreOnce}
use Rattle.fab_store_tables.specs.declared.stored_line.TableLine.{TableLine}
use Rattle.fab_world.specs.Soundness.{IsSound}
use Rattle.fab_world.specs.Worlds.{WorldRows}

-- the lines have the rows that stand in the one world and not in the other, each once, and no others
pub record AreOnlyIn {A : Type 0} (w other : WorldRows) (lines : List (TableLine A)) : Type 0 where
  pub are : (t : Table) (columns : Row) → IsAmong lines t columns ↔ (StandsIn w t columns × ¬ StandsIn other t columns)
  pub once : AreOnce lines

-- what holds of the table and the columns of the line
there : {A : Type 0} (P : Table → Row → Type 0) (l : TableLine A) (t : Table) (columns : Row) → table_of l ≡ t → row_of l ≡ columns → P (table_of l) (row_of l) → P t columns
there P l t columns tables rows p = subst (λ u. P u columns) tables (subst (P (table_of l)) rows p)

module _ {A : Type 0} (w other : WorldRows) (rows : List AnyRow) (lines : List (TableLine A)) (of : AreLinesOf rows lines) (listed : (x : AnyRow) → Contains rows x ↔ StandsOnlyIn w other x) where
  among : (t : Table) (columns : Row) → IsAmong lines t columns → StandsIn w t columns × (¬ StandsIn other t columns)
  among t columns (l, in_lines, tables, is) =
      let s = (of.are l).0 in_lines in
      let only = (listed s.0).0 s.1 in
      there (λ u r. StandsIn w u r × (¬ StandsIn other u r)) l t columns tables is (stands_in w s.0 l s.2 only.0, λ stands. only.1 (stands_out other s.0 l s.2 stands))

  only_in : (t : Table) (columns : Row) → StandsIn w t columns → ¬ StandsIn other t columns → IsAmong lines t columns
  only_in t columns stands out =
      let s = standing w t columns stands in
      let only : StandsOnlyIn w other s.row = (s.stands, λ also. out (there (StandsIn other) s.line t columns s.in_table s.is (stands_in other s.row s.line s.shows also))) in
      (s.line, (of.are s.line).1 (s.row, (listed s.row).1 only, s.shows), s.in_table, s.is)

  pub are_only_in : AreDistinct rows → AreOnlyIn w other lines
  are_only_in distinct = record {
    are = λ t columns. (among t columns, λ s. only_in t columns s.0 s.1);
    once = of.once distinct;
  }

-- each name is in the order of a sound world once
pub ordered : (w : WorldRows) → IsSound w → IsOrdered w
ordered w sound = sound.order.each_once

pub lines_changed : {A : Type 0} (c : Changes A) (removed added : List (TableLine A)) → AreLinesOf (all_rows c.removed) removed → AreLinesOf (all_rows c.added) added → (before after : WorldRows) → IsSound before → IsSound after → AreChanges before after c
    → AreOnlyIn before after removed × AreOnlyIn after before added
lines_changed c removed added of_removed of_added before after sound_before sound_after changed =
    let b = ordered before sound_before in
    let a = ordered after sound_after in (
      are_only_in before after (all_rows c.removed) removed of_removed (rows_are before after c.removed changed.removed b a) (rows_distinct before after c.removed changed.removed b a),
      are_only_in after before (all_rows c.added) added of_added (rows_are after before c.added changed.added a b) (rows_distinct after before c.added changed.added a b),
    )
