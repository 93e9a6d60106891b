-- The rows of what the activation of one plan took away and added.
use Rattle.std.proofs.Common.{◌≡◌, ℕ, List, [], ◌++◌, map, Contains, Option, None, Some, inl, inr, refl, sym, ap, ◌∙◌, subst}
use Rattle.std.specs.declared.cmp.Ordering.{Ordering}
use Rattle.std.specs.declared.cmp.Ordering.TheVariants.{Less}
use Rattle.std.specs.Cmp.{tied_itself}
use Rattle.std.specs.Ordering.{ordering_then}
use Rattle.std.specs.List.Sorted.{IsStrictlySortedBy}
use Rattle.std.proofs.lemmas.List.Elements.{Contains-append_left, Contains-append_right, Contains-append_cases}
use Rattle.std.proofs.lemmas.Option.{same_Some}
use Rattle.fab_reach_base.specs.fab_lemmas.Lists.{IsListOf}
use Rattle.fab_reach_base.proofs.fab_lemmas.Filters.{list_as}
use Rattle.fab_reach_base.proofs.fab_names.OrderLaws.{name_total}
use Rattle.fab_store_rows.specs.RowOrder.{row_cmp}
use Rattle.fab_store_rows.specs.OrderOfRows.{same_order}
use Rattle.fab_store_rows.specs.declared.config_row.ConfigRow.{ConfigRow}
use Rattle.fab_store_rows.specs.declared.record_row.PlanState.TheVariants as state
use Rattle.fab_store_rows.specs.declared.record_row.Sign.{Sign}
use Rattle.fab_store_rows.specs.declared.record_row.Sign.TheVariants.{Taken, Added}
use Rattle.fab_store_rows.specs.declared.record_row.UndoRow.{UndoRow}
use Rattle.fab_store_world.specs.PlanRows.{IsChanged, IsInOrder}
use Rattle.fab_world.specs.PlanRecords.{Standing, staged, active, rolled_back, withdrawn, PlanRecord}
use Rattle.fab_world.specs.Plans.{Change, state_of, undo_of}
use Rattle.fab_store_world.specs.Keys.{undo_order}
use Rattle.fab_desk_rows.specs.PlanMoves.{undo_row, IsUndoOf, IsUndoRowOf, IsOfOne, AreUndoMoved}
use Rattle.fab_desk_rows.proofs.Listed.{none_listed}
use Rattle.fab_desk_rows.proofs.Sorted.{from_mapped, to_mapped, mapped_sorted, both_sorted}

-- ---- the rows of one change

same_sign : (n : List ℕ) (s : Sign) (a b : ConfigRow) → row_cmp a b ≡ Less → undo_order (undo_row n s a) (undo_row n s b) ≡ Less
same_sign n Taken a b less = ap (λ x. ordering_then x (row_cmp a b)) (tied_itself name_total n) ∙ less
same_sign n Added a b less = ap (λ x. ordering_then x (row_cmp a b)) (tied_itself name_total n) ∙ less

taken_first : (n : List ℕ) (a b : ConfigRow) → undo_order (undo_row n Taken a) (undo_row n Added b) ≡ Less
taken_first n a b = ap (λ x. ordering_then x Less) (tied_itself name_total n)

module _ (n : List ℕ) (taken added : List ConfigRow) where
  abbrev pub told : List UndoRow
  told = map (undo_row n Taken) taken ++ map (undo_row n Added) added

  each_sorted : (s : Sign) (rows : List ConfigRow) → IsInOrder rows → IsStrictlySortedBy undo_order (map (undo_row n s) rows)
  each_sorted s rows in_order = mapped_sorted (undo_row n s) row_cmp undo_order (same_sign n s) rows (subst (λ (O : ConfigRow → ConfigRow → Ordering). IsStrictlySortedBy O rows) (sym same_order) in_order)

  told_sorted : IsInOrder taken → IsInOrder added → IsStrictlySortedBy undo_order told
  told_sorted t a = both_sorted undo_order (map (undo_row n Taken) taken) (map (undo_row n Added) added) (each_sorted Taken taken t) (each_sorted Added added a) (λ x y h k.
      let v = from_mapped (undo_row n Taken) taken x h in
      let w = from_mapped (undo_row n Added) added y k in
      subst (λ z. undo_order z y ≡ Less) v.2 (subst (λ z. undo_order (undo_row n Taken v.0) z ≡ Less) w.2 (taken_first n v.0 w.0)))

  told_sound : (r : UndoRow) → Contains told r → IsUndoOf n taken added r
  told_sound r h = elim (Contains-append_cases (map (undo_row n Taken) taken) (map (undo_row n Added) added) r h) [
    | inl here ↦ let w = from_mapped (undo_row n Taken) taken r here in subst (IsUndoOf n taken added) w.2 (refl, w.1)
    | inr more ↦ let w = from_mapped (undo_row n Added) added r more in subst (IsUndoOf n taken added) w.2 (refl, w.1)
  ]

  told_complete : (r : UndoRow) → IsUndoOf n taken added r → Contains told r
  told_complete r h = by r.sign refl h.1
    where
      by : (s : Sign) → r.sign ≡ s → IsChanged (active taken added) s r.row → Contains told r
      by Taken e changed =
          let is : undo_row n Taken r.row ≡ r = λ i. record { plan = sym h.0 i; sign = sym e i; row = r.row } in
          subst (Contains told) is (Contains-append_left (map (undo_row n Taken) taken) (map (undo_row n Added) added) (undo_row n Taken r.row) (to_mapped (undo_row n Taken) taken r.row changed))
      by Added e changed =
          let is : undo_row n Added r.row ≡ r = λ i. record { plan = sym h.0 i; sign = sym e i; row = r.row } in
          subst (Contains told) is (Contains-append_right (map (undo_row n Taken) taken) (map (undo_row n Added) added) (undo_row n Added r.row) (to_mapped (undo_row n Added) added r.row changed))

  pub change_listed : (rows : List UndoRow) → rows ≡ told → IsInOrder taken → IsInOrder added → IsListOf undo_order (IsUndoOf n taken added) rows
  change_listed rows is t a = subst (IsListOf undo_order (IsUndoOf n taken added)) (sym is) (record { sorted = told_sorted t a; sound = told_sound; complete = told_complete })

-- ---- plans that are active, and plans that are not

not_active : (s : Standing) → ¬ (state_of s ≡ state.Active) → (sign : Sign) (row : ConfigRow) → ¬ IsChanged s sign row
not_active (active t u) idle sign row h = idle refl
not_active staged idle sign row h = h
not_active rolled_back idle sign row h = h
not_active withdrawn idle sign row h = h

pub undo_is : (s : Standing) (c : Change) → undo_of s ≡ Some c → s ≡ active c.taken c.added
undo_is (active t u) c is = let e : record { taken = t; added = u } ≡ c = same_Some (record { taken = t; added = u }) c is in ap (λ (d : Change). active d.taken d.added) e
undo_is staged c is = absurd cc
undo_is rolled_back c is = absurd cc
undo_is withdrawn c is = absurd cc

pub no_undo : (s : Standing) → undo_of s ≡ None → ¬ (state_of s ≡ state.Active)
no_undo (active t u) is h = absurd cc
no_undo staged is h = absurd cc
no_undo rolled_back is h = absurd cc
no_undo withdrawn is h = absurd cc

module _ (n : List ℕ) (p q : PlanRecord) (idle : ¬ (state_of p.standing ≡ state.Active)) where
  none_of_idle : (o : Option PlanRecord) (xs : List UndoRow) → xs ≡ [] → IsListOf undo_order (IsOfOne (λ r. r.plan) IsUndoRowOf n (Some p) o) xs
  none_of_idle o xs is = none_listed undo_order (IsOfOne (λ r. r.plan) IsUndoRowOf n (Some p) o) xs is (λ r h.
      not_active p.standing idle r.sign r.row (subst (λ (x : PlanRecord). IsChanged x.standing r.sign r.row) (sym (same_Some p h.1.0 h.1.1)) h.1.2))

  all_of_active : (taken added : List ConfigRow) (ys : List UndoRow) → q.standing ≡ active taken added → IsListOf undo_order (IsUndoOf n taken added) ys → IsListOf undo_order (IsOfOne (λ r. r.plan) IsUndoRowOf n (Some q) (Some p)) ys
  all_of_active taken added ys is = list_as (IsUndoOf n taken added) (IsOfOne (λ r. r.plan) IsUndoRowOf n (Some q) (Some p)) ys
      (λ r h. (
        h.0,
        (q, refl, subst (λ s. IsChanged s r.sign r.row) (sym is) h.1),
        λ k. not_active p.standing idle r.sign r.row (subst (λ (x : PlanRecord). IsChanged x.standing r.sign r.row) (sym (same_Some p k.0 k.1)) k.2),
      ))
      (λ r h. (
        h.0,
        subst (λ s. IsChanged s r.sign r.row) is (subst (λ (x : PlanRecord). IsChanged x.standing r.sign r.row) (sym (same_Some q h.1.0 h.1.1)) h.1.2),
      ))

  -- the plan becomes active
  pub activated : (taken added : List ConfigRow) (xs ys : List UndoRow) → q.standing ≡ active taken added → xs ≡ [] → IsListOf undo_order (IsUndoOf n taken added) ys → AreUndoMoved n (Some p) (Some q) xs ys
  activated taken added xs ys is empty l = record { removed = none_of_idle (Some q) xs empty; added = all_of_active taken added ys is l }

  -- it is active no more
  pub deactivated : (taken added : List ConfigRow) (xs ys : List UndoRow) → q.standing ≡ active taken added → ys ≡ [] → IsListOf undo_order (IsUndoOf n taken added) xs → AreUndoMoved n (Some q) (Some p) xs ys
  deactivated taken added xs ys is empty l = record { removed = all_of_active taken added xs is l; added = none_of_idle (Some q) ys empty }

-- it was not active, and is not
pub idle_stays : (n : List ℕ) (p q : PlanRecord) (xs ys : List UndoRow) → ¬ (state_of p.standing ≡ state.Active) → ¬ (state_of q.standing ≡ state.Active) → xs ≡ [] → ys ≡ [] → AreUndoMoved n (Some p) (Some q) xs ys
idle_stays n p q xs ys was now no_x no_y = record { removed = none_of_idle n p q was (Some q) xs no_x; added = none_of_idle n q p now (Some p) ys no_y }

-- there was no plan, and the one that is there is not active
pub idle_comes : (n : List ℕ) (p : PlanRecord) (xs ys : List UndoRow) → ¬ (state_of p.standing ≡ state.Active) → xs ≡ [] → ys ≡ [] → AreUndoMoved n None (Some p) xs ys
idle_comes n p xs ys idle no_x no_y = record {
  removed = none_listed undo_order (IsOfOne (λ r. r.plan) IsUndoRowOf n None (Some p)) xs no_x (λ r h. let no : ◌≡◌ {A = Option PlanRecord} None (Some h.1.0) = h.1.1 in absurd cc);
  added = none_of_idle n p p idle None ys no_y;
}
