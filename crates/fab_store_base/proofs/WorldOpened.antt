-- The rows of tables and the rows that stand in a world.
use Rattle.std.proofs.Common.{◌↔◌}
use Rattle.fab_store_world.specs.Standing.{HaveRows}
use Rattle.fab_store_world.specs.Tables.{IsCountRow}
use Rattle.fab_store_load.specs.Faults.{OfTable}
use Rattle.fab_store_load.specs.declared.fault.LoadFault.{LoadFault}
use Rattle.fab_store_load.specs.declared.fault.LoadFault.TheVariants.{Damaged, Memory}
use Rattle.fab_store_world.proofs.OneWorld.{one_world}
use Rattle.fab_store_world.specs.OpenedTables as opening
use Rattle.fab_store_world.specs.OpenedTables.{IsCount, AreTableRows}
use Rattle.fab_store_rows.specs.declared.table_rows.CountRow.{CountRow}
use Rattle.fab_store_rows.specs.declared.table_rows.CountRow.TheVariants.{Schema, Revision}
use Rattle.fab_store_rows.specs.declared.table_rows.TableRows.{TableRows}
use Rattle.fab_store_tables.specs.Reading.{HasRow, AreRowsOf, HasOddLine}
use Rattle.fab_store_tables.specs.Rows.{AnyRow, count, port, address, holder, volume, config_row, plan, approval, undo, path}
use Rattle.fab_store_tables.specs.declared.lines.TableLines.{TableLines}
use Rattle.fab_store_base.proofs.LinesHeld.{no_odd, holds_rows, has_lines, rows_stand, have_names}
use Rattle.fab_store_base.proofs.PlansTold.{plans_told, order_told, plans_stand, texts_told}
use Rattle.fab_store_base.specs.Opened.{tables_of, ArePlansOnce, HasLines, HasNoWorld, IsOnlyWorld}
use Rattle.fab_store_base.specs.Standing.{StandsRow}
use Rattle.fab_store_base.specs.Worlds.{HoldsWorld}
use Rattle.fab_store_world.specs.PlanRows.{HaveNames}
use Rattle.fab_world.specs.Soundness.{IsSound}
use Rattle.fab_world.specs.Worlds.{WorldRows}

-- the rows of counts, in both words
count_here : (w : WorldRows) (r : CountRow) → IsCountRow w r → IsCount w.revision r
count_here w (Schema n) is = is
count_here w (Revision n) is = is

count_there : (w : WorldRows) (r : CountRow) → IsCount w.revision r → IsCountRow w r
count_there w (Schema n) is = is
count_there w (Revision n) is = is

module _ {A : Type 0} (t : TableRows A) (w : WorldRows) (sound : IsSound w) where
  -- the rows are those that stand
  standing_rows : AreTableRows t w → (x : AnyRow) → HasRow t x ↔ StandsRow w x
  standing_rows h (count r) = let are = h.records_are.counts_are r in (λ there. count_there w r (are.0 there), λ is. are.1 (count_here w r is))
  standing_rows h (port r) = h.records_are.inventory_are.ports_are r
  standing_rows h (address r) = h.records_are.inventory_are.addresses_are r
  standing_rows h (holder r) = h.records_are.inventory_are.holders_are r
  standing_rows h (volume r) = h.records_are.inventory_are.volumes_are r
  standing_rows h (config_row r) = h.records_are.config_are r
  standing_rows h (plan r) = plans_stand w sound t.plans.items h.records_are.plans_are.rows_are h.records_are.plans_are.order_is r
  standing_rows h (approval r) = h.records_are.plans_are.approvals_are r
  standing_rows h (undo r) = h.records_are.plans_are.undo_are r
  standing_rows h (path r) = h.paths_are r

  table_rows : HaveRows w → HaveNames t.plans.items → ((x : AnyRow) → HasRow t x ↔ StandsRow w x) → AreTableRows t w
  table_rows texts names are = record {
    records_are = record {
      counts_are = λ r. (λ there. count_here w r ((are (count r)).0 there), λ is. (are (count r)).1 (count_there w r is));
      inventory_are = record { ports_are = λ r. are (port r); addresses_are = λ r. are (address r); holders_are = λ r. are (holder r); volumes_are = λ r. are (volume r) };
      config_are = λ r. are (config_row r);
      plans_are = record {
        rows_are = plans_told w sound texts t.plans.items (λ r. are (plan r)) names;
        approvals_are = λ r. are (approval r);
        undo_are = λ r. are (undo r);
        order_is = order_told w sound texts t.plans.items (λ r. are (plan r)) names;
      };
    };
    paths_are = λ r. are (path r);
  }

module _ {A : Type 0} (lines : TableLines) where
  pub opened : (t : TableRows A) → AreRowsOf lines t → (w : WorldRows) → IsSound w → AreTableRows t w → HoldsWorld (tables_of lines) w
  opened t of w sound h = holds_rows lines w t of (standing_rows t w sound h)

  pub opened_lines : (t : TableRows A) → AreRowsOf lines t → (w : WorldRows) → IsSound w → AreTableRows t w → HasLines A w
  opened_lines t of w sound h = record {
    rows = has_lines lines w t of (standing_rows t w sound h);
    texts = texts_told w sound t.plans.items h.records_are.plans_are.rows_are h.records_are.plans_are.order_is;
  }

  -- the rows are those of each sound world that has just the columns
  rows_of_world : (t : TableRows A) → AreRowsOf lines t → ArePlansOnce lines → (w : WorldRows) → HasLines A w → HoldsWorld (tables_of lines) w → IsSound w → AreTableRows t w
  rows_of_world t of once w lined holds sound =
      let are = rows_stand lines w t of holds lined in
      table_rows t w sound lined.texts (have_names lines w t of sound.order.each_once once (λ x. (are x).0)) are

  pub only_world : (t : TableRows A) → AreRowsOf lines t → (w : WorldRows) → IsSound w → AreTableRows t w → IsOnlyWorld A lines w
  only_world t of w sound h once v lined holds other = one_world t v w (rows_of_world t of once v lined holds other) h other sound

  -- no sound world has the rows
  pub no_world : (t : TableRows A) → AreRowsOf lines t → (fault : LoadFault) → OfTable (λ table. opening.HasNoWorld t) fault → OfTable (λ table. HasNoWorld A lines) fault
  no_world t of (Damaged table) none = λ once w lined holds sound. none w (rows_of_world t of once w lined holds sound) sound
  no_world t of Memory none = tt

-- nor has a line that shows no row one
pub odd_world : (A : Type 0) (lines : TableLines) (fault : LoadFault) → OfTable (HasOddLine A lines) fault → OfTable (λ table. HasNoWorld A lines) fault
odd_world A lines (Damaged table) odd = λ once w lined holds sound. no_odd lines w holds table odd
odd_world A lines Memory odd = tt
