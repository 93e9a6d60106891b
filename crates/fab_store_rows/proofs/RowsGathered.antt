-- Rows that are gathered one by one, but for those that stand in another configuration.
use Rattle.std.proofs.Common.{◌≡◌, List, true, cond, Contains, Option, ◌⊎◌, inl, inr, sym, subst}
use Rattle.std.specs.BTreeMap.{is_at}
use Rattle.std.specs.BTreeSet.{BTreeSet, contains}
use Rattle.fab_reach_base.specs.Adding.{Adds}
use Rattle.fab_reach_base.specs.Records.{ConfigRows}
use Rattle.fab_reach_base.proofs.Adding.{Before, adds_as, adds_none}
use Rattle.fab_reach_base.proofs.Sets.{adds_insert}
use Rattle.fab_store_rows.specs.declared.config_row.ConfigRow.{ConfigRow}
use Rattle.fab_store_rows.specs.RowOrder.{row_cmp}
use Rattle.fab_store_rows.specs.Gathering.{Has, Misses, Lacking}
use Rattle.fab_store_rows.specs.OrderOfRows.{row_total, row_exact}

-- two steps, one after the other
pub adds_both : {Y : Type 0} (P Q f g h : Y → Type 0) → Adds P f g → Adds Q g h → Adds (λ y. P y ⊎ Q y) f h
adds_both P Q f g h a b = record {
  sound = λ y k. elim (b.sound y k) [ inl l ↦ elim (a.sound y l) [ inl o ↦ inl o | inr p ↦ inr (inl p) ] | inr q ↦ inr (inr q) ];
  kept = λ y k. b.kept y (a.kept y k);
  there = λ y e. elim e [ inl p ↦ b.kept y (a.there y p) | inr q ↦ b.there y q ];
}

module _ (o : Option ConfigRows) where
  -- a row was inserted
  pub row_added : (s n : BTreeSet ConfigRow) (k : ConfigRow) → Misses o k → ((q : ConfigRow) → contains row_cmp n q ≡ cond (is_at (row_cmp k) q) true (contains row_cmp s q)) → Adds (Lacking o (λ r. r ≡ k)) (Has s) (Has n)
  row_added s n k misses u = adds_as (λ r. r ≡ k) (Lacking o (λ r. r ≡ k)) (Has s) (Has n) (λ r e. (e, subst (Misses o) (sym e) misses)) (λ r w. w.0) (adds_insert row_total row_exact s n k u)

  -- it stands in the other
  pub row_kept : (s : BTreeSet ConfigRow) (k : ConfigRow) → ¬ Misses o k → Adds (Lacking o (λ r. r ≡ k)) (Has s) (Has s)
  row_kept s k stands = adds_none (Lacking o (λ r. r ≡ k)) (Has s) (λ r w. stands (subst (Misses o) w.0 w.1))

  -- the same, said otherwise
  pub lacking_as : (P Q old new : ConfigRow → Type 0) → ((r : ConfigRow) → P r → Q r) → ((r : ConfigRow) → Q r → P r) → Adds (Lacking o P) old new → Adds (Lacking o Q) old new
  lacking_as P Q old new to from = adds_as (Lacking o P) (Lacking o Q) old new (λ r w. (to r w.0, w.1)) (λ r w. (from r w.0, w.1))

  -- two steps
  pub lacking_both : (P Q f g h : ConfigRow → Type 0) → Adds (Lacking o P) f g → Adds (Lacking o Q) g h → Adds (Lacking o (λ r. P r ⊎ Q r)) f h
  lacking_both P Q f g h a b =
      adds_as (λ r. Lacking o P r ⊎ Lacking o Q r) (Lacking o (λ r. P r ⊎ Q r)) f h
      (λ r e. elim e [ inl p ↦ (inl p.0, p.1) | inr q ↦ (inr q.0, q.1) ])
      (λ r w. elim w.0 [ inl p ↦ inl (p, w.1) | inr q ↦ inr (q, w.1) ])
      (adds_both (Lacking o P) (Lacking o Q) f g h a b)

  -- what each item of a list adds
  pub lacking_all : {E : Type 0} (P : E → ConfigRow → Type 0) (ys xs : List E) (old new : ConfigRow → Type 0) → ys ≡ xs → Adds (Before (λ e. Lacking o (P e)) ys) old new → Adds (Lacking o (λ r. (e : E) × Contains xs e × P e r)) old new
  lacking_all {E} P ys xs old new is =
      adds_as (Before (λ e. Lacking o (P e)) ys) (Lacking o (λ r. (e : E) × Contains xs e × P e r)) old new
      (λ r w. ((w.0, subst (λ zs. Contains zs w.0) is w.1, w.2.0), w.2.1))
      (λ r w. (w.0.0, subst (λ zs. Contains zs w.0.0) (sym is) w.0.1, (w.0.2, w.1)))

-- a row that was made
pub same_row : (o : Option ConfigRows) (k r : ConfigRow) (old new : ConfigRow → Type 0) → k ≡ r → Adds (Lacking o (λ x. x ≡ k)) old new → Adds (Lacking o (λ x. x ≡ r)) old new
same_row o k r old new is a = subst (λ y. Adds (Lacking o (λ x. x ≡ y)) old new) is a
