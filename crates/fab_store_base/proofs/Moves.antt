-- The lines lead from the rows of one world to those of another.
use Rattle.std.proofs.Common.{inl, inr}
use Rattle.fab_store_world.specs.Tables.{AreChanges}
use Rattle.fab_store_world.specs.declared.tables.Changes.{Changes}
use Rattle.fab_store_base.proofs.Told.{row_told}
use Rattle.fab_store_tables.specs.Listing.{AreLinesOf, all_rows}
use Rattle.fab_store_base.proofs.Listed.{rows_are}
use Rattle.fab_store_base.proofs.OnlyIn.{ordered, lines_changed}
use Rattle.fab_store_base.proofs.Written.{written}
use Rattle.fab_store_base.specs.Moves.{AreMoves}
use Rattle.fab_store_tables.specs.declared.changes.LineChanges.{LineChanges}
use Rattle.fab_world.specs.Soundness.{IsSound}
use Rattle.fab_world.specs.Worlds.{WorldRows}

pub are_moves : {A : Type 0} (c : Changes A) (lines : LineChanges A) → AreLinesOf (all_rows c.removed) lines.removed.items → AreLinesOf (all_rows c.added) lines.added.items → (before after : WorldRows) → IsSound before → IsSound after → AreChanges before after c
    → AreMoves before after lines
are_moves c lines of_removed of_added before after sound_before sound_after changed =
    let both = lines_changed c lines.removed.items lines.added.items of_removed of_added before after sound_before sound_after changed in
    record {
      removed = λ t r. (both.0.are t r).0;
      added = λ t r. (both.1.are t r).0;
      gone = λ t r there. elim (row_told before after t r there) [ inl also ↦ inl also | inr not_there ↦ inr ((both.0.are t r).1 (there, not_there)) ];
      come = λ t r there. elim (row_told after before t r there) [ inl also ↦ inl also | inr not_there ↦ inr ((both.1.are t r).1 (there, not_there)) ];
      removed_once = both.0.once;
      added_once = both.1.once;
      written = written before after sound_after (all_rows c.added) lines.added.items of_added (rows_are after before c.added changed.added (ordered after sound_after) (ordered before sound_before));
    }
