-- The rows of counts in which two worlds differ.
use Rattle.std.proofs.Common.{◌≡◌, ℕ, List, [], ◌∷◌, Contains, Bool, true, false, cond, nat_eq, inl, inr, refl, sym, ap, ◌∙◌, subst, arith}
use mathlib.Core.Bool.{true≢false}
use Rattle.std.specs.List.Sorted.{IsStrictlySortedBy}
use Rattle.std.proofs.lemmas.Bool.Decides.{nat_tests}
use Rattle.fab_reach_base.specs.fab_lemmas.Lists.{IsListOf}
use Rattle.fab_store_rows.specs.declared.table_rows.CountRow.{CountRow}
use Rattle.fab_store_rows.specs.declared.table_rows.CountRow.TheVariants.{Schema, Revision}
use Rattle.fab_world.specs.Worlds.{WorldRows}
use Rattle.fab_store_world.specs.Standing.{Lacking}
use Rattle.fab_store_world.specs.Tables.{IsCountRow, count_order}
use Rattle.fab_store_world.proofs.Picked.{first_or_later}

none_of : {X : Type 0} (x : X) → ¬ Contains [] x
none_of x h = omega (arith, h.1)

only_one : {X : Type 0} (x y : X) → Contains (x ∷ []) y → x ≡ y
only_one x y h = elim (first_or_later x y [] h) [ inl is ↦ is | inr more ↦ absurd (none_of y more) ]

one_sorted : (n : ℕ) → IsStrictlySortedBy count_order (Revision n ∷ [])
unfolding IsStrictlySortedBy
one_sorted n = (tt, tt)

none_sorted : IsStrictlySortedBy count_order []
unfolding IsStrictlySortedBy
none_sorted = tt

-- the row of a revision, unless it is the other's
pub new_counted : (v w : WorldRows) (n m : ℕ) (rows : List CountRow) → n ≡ v.revision → m ≡ w.revision → rows ≡ cond (nat_eq n m) [] (Revision n ∷ []) → IsListOf count_order (Lacking IsCountRow w v) rows
new_counted v w n m rows now other is = by (nat_eq n m) refl is
  where
    none : rows ≡ [] → n ≡ m → IsListOf count_order (Lacking IsCountRow w v) rows
    none empty same = subst (IsListOf count_order (Lacking IsCountRow w v)) (sym empty) (record { sorted = none_sorted; sound = λ r h. absurd (none_of r h); complete = complete })
      where
        complete : (r : CountRow) → Lacking IsCountRow w v r → Contains [] r
        complete (Schema k) h = absurd (h.1 h.0)
        complete (Revision k) h = absurd (h.1 (h.0 ∙ sym now ∙ same ∙ other))

    some : rows ≡ Revision n ∷ [] → ¬ (n ≡ m) → IsListOf count_order (Lacking IsCountRow w v) rows
    some one apart = subst (IsListOf count_order (Lacking IsCountRow w v)) (sym one) (record { sorted = one_sorted n; sound = sound; complete = complete })
      where
        sound : (r : CountRow) → Contains (Revision n ∷ []) r → Lacking IsCountRow w v r
        sound r h = subst (Lacking IsCountRow w v) (only_one (Revision n) r h) (now, λ e. apart (e ∙ sym other))

        complete : (r : CountRow) → Lacking IsCountRow w v r → Contains (Revision n ∷ []) r
        complete (Schema k) h = absurd (h.1 h.0)
        complete (Revision k) h = (0, omega arith, ap Revision (now ∙ sym h.0))

    by : (b : Bool) → nat_eq n m ≡ b → rows ≡ cond b [] (Revision n ∷ []) → IsListOf count_order (Lacking IsCountRow w v) rows
    by true e at = none at (let same : n ≡ m = grind (arith, nat_tests) in same)
    by false e at = some at (λ same. true≢false (sym (let t : nat_eq n m ≡ true = grind (arith, nat_tests) in t) ∙ e))
