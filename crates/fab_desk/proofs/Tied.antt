-- Tables that are tied to a world, and what a change makes of them.
use Rattle.std.proofs.Common.{◌≡◌, ◌⊎◌, Result, Ok, Err, OnOk, IfOk, inl, inr, sym, subst}
use Rattle.fab_store_base.specs.Moves.{AreMoves}
use Rattle.fab_store_base.specs.Worlds.{HoldsWorld, IsWritten}
use Rattle.fab_store_base.specs.declared.store.Store as store
use Rattle.fab_store_tables.specs.Tables.{Tables, HaveKeys, CanChange, AreChanged}
use Rattle.fab_store_tables.specs.declared.changes.LineChanges.{LineChanges}
use Rattle.fab_world.specs.Worlds.{WorldRows}
use Rattle.fab_desk.specs.Desks.{IsTied}

-- what holds anyhow holds of an answer
pub on_ok : {T E P : Type 0} (r : Result T E) → P → OnOk r P
on_ok (Ok x) p = p
on_ok (Err e) p = tt

-- what follows of a value follows of the answer
pub ok_as : {T E : Type 0} {P Q : T → Type 0} (r : Result T E) → ((x : T) → P x → Q x) → IfOk r P → IfOk r Q
ok_as (Ok x) then p = then x p
ok_as (Err e) then p = tt

-- a store that was just read is tied to the world that it has
pub found_tied : {A S : Type 0} (g : store.Ghosts S A) (s : S) (w : WorldRows) → ((u : S) (left : Tables) → g.is_open u → g.is_ready u → g.may_leave u left → left ≡ g.tables u)
    → g.is_open s → g.is_ready s → IsWritten w → HoldsWorld (g.tables s) w → IsTied g s w
found_tied g s w settled is_open ready written holds = record {
  ready = ready;
  written = written;
  holds = λ _. holds;
  leaves = λ left may. subst (λ u. HoldsWorld u w) (sym (settled s left is_open ready may)) holds;
}

module _ {A : Type 0} (w v : WorldRows) (c : LineChanges A) (moves : AreMoves w v c) where
  -- the changes may be made
  pub can_change : (t : Tables) → HaveKeys t → HoldsWorld t w → CanChange c t
  can_change t keys holds = record {
    keyed = keys;
    there = λ n r among. (holds n r).1 (moves.removed n r among).0;
    absent = λ n r among has. (moves.added n r among).1 ((holds n r).0 has);
    removed_once = moves.removed_once;
    added_once = moves.added_once;
  }

  -- and the tables have the rows of the world after it then
  pub holds_after : (t u : Tables) → HoldsWorld t w → AreChanged c t u → HoldsWorld u v
  holds_after t u holds changed n r = (
    λ has. elim ((changed n r).0 has) [
      | inl old ↦ elim (moves.gone n r ((holds n r).0 old.0)) [ inl stays ↦ stays | inr removed ↦ absurd (old.1 removed) ]
      | inr added ↦ (moves.added n r added).0
    ],
    λ stands. (changed n r).1 (elim (moves.come n r stands) [
      | inl before ↦ inl ((holds n r).1 before, λ removed. (moves.removed n r removed).1 stands)
      | inr added ↦ inr added
    ]),
  )

  module _ {S : Type 0} (g : store.Ghosts S A) (s t : S) (settled : (u : S) (left : Tables) → g.is_open u → g.is_ready u → g.may_leave u left → left ≡ g.tables u) (keys : (u : Tables) → HoldsWorld u w → HaveKeys u) (tied : IsTied g s w) where
    pub can : g.is_open s → CanChange c (g.tables s)
    can is_open = can_change (g.tables s) (keys (g.tables s) (tied.holds is_open)) (tied.holds is_open)

    -- a store that made the changes is tied to the world after it
    pub tied_after : g.is_ready t → g.is_open s × g.is_open t × AreChanged c (g.tables s) (g.tables t) → IsTied g t v
    tied_after ready done =
        let holds = holds_after (g.tables s) (g.tables t) (tied.holds done.0) done.2 in
        record {
          ready = ready;
          written = moves.written tied.written;
          holds = λ _. holds;
          leaves = λ left may. subst (λ u. HoldsWorld u v) (sym (settled t left done.1 ready may)) holds;
        }

    -- a stop leaves the tables of one of the worlds
    pub left_after : (left : Tables) → g.may_leave s left ⊎ (g.is_open s × AreChanged c (g.tables s) left) → HoldsWorld left w ⊎ HoldsWorld left v
    left_after left (inl before) = inl (tied.leaves left before)
    left_after left (inr done) = inr (holds_after (g.tables s) left (tied.holds done.0) done.1)
