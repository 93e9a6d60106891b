-- Lists of no rows, and of one.
use Rattle.std.proofs.Common.{◌≡◌, List, [], ◌∷◌, inl, inr, sym, subst, arith}
use Rattle.std.specs.declared.cmp.Ordering.{Ordering}
use Rattle.std.specs.List.Sorted.{IsStrictlySortedBy}
use Rattle.fab_reach_base.specs.fab_lemmas.Lists.{IsListOf}
use Rattle.fab_world.specs.Worlds.{WorldRows}
use Rattle.fab_store_world.specs.Standing.{Lacking}
use Rattle.fab_store_world.proofs.Picked.{first_or_later}
use Rattle.fab_desk_rows.specs.Moves.{AreMoved}

module _ {R : Type 0} (O : R → R → Ordering) where
  none_sorted : IsStrictlySortedBy O []
  unfolding IsStrictlySortedBy
  none_sorted = tt

  one_sorted : (r : R) → IsStrictlySortedBy O (r ∷ [])
  unfolding IsStrictlySortedBy
  one_sorted r = (tt, tt)

  -- nothing has P
  pub none_listed : (P : R → Type 0) (xs : List R) → xs ≡ [] → ((r : R) → ¬ P r) → IsListOf O P xs
  none_listed P xs is none = subst (IsListOf O P) (sym is) (record {
    sorted = none_sorted;
    sound = λ r h. absurd (omega (arith, h.1));
    complete = λ r p. absurd (none r p);
  })

  -- just this one has P
  pub one_listed : (P : R → Type 0) (r : R) → P r → ((s : R) → P s → s ≡ r) → IsListOf O P (r ∷ [])
  one_listed P r p only = record {
    sorted = one_sorted r;
    sound = λ s h. elim (first_or_later r s [] h) [ inl is ↦ subst P is p | inr more ↦ absurd (omega (arith, more.1)) ];
    complete = λ s h. (0, omega arith, sym (only s h));
  }

  -- the same rows stand in both worlds
  pub none_moved : (Stands : WorldRows → R → Type 0) (w v : WorldRows) (xs ys : List R) → xs ≡ [] → ys ≡ [] → ((r : R) → Stands w r → Stands v r) → ((r : R) → Stands v r → Stands w r) → AreMoved O Stands w v xs ys
  none_moved Stands w v xs ys no_x no_y there back = record {
    removed = none_listed (Lacking Stands v w) xs no_x (λ r h. h.1 (there r h.0));
    added = none_listed (Lacking Stands w v) ys no_y (λ r h. h.1 (back r h.0));
  }
