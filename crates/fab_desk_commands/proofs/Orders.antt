-- The plans in force, where one is added behind them, and where the last of them is taken away.
use Rattle.std.proofs.Common.{ℕ, ◌≡◌, ◌≢◌, ◌⊎◌, inl, inr, List, [], ◌∷◌, ◌++◌, reverse, Contains, Option, Bool, true, false, refl, sym, ap, ◌∙◌, subst, arith}
use mathlib.Core.Bool.{true≢false}
use Rattle.std.specs.Cmp.{Equal-is, eq_by_cmp_equiv, tied_itself}
use Rattle.std.specs.List.{IsDistinct, list_any}
use Rattle.std.specs.Option.{option_to_list}
use Rattle.std.specs.Ordering.{is_eq, eq_by_cmp}
use Rattle.std.proofs.lemmas.Bool.{cases_Bool}
use Rattle.std.proofs.lemmas.List.{reverse-append}
use Rattle.std.proofs.lemmas.List.Elements.{All-contains, All-from_recursion, Contains-append_left, Contains-append_right, Contains-push, Contains-push_cases}
use Rattle.std.proofs.lemmas.List.Sorted.{Contains-permutation, IsPermutation-reverse, IsPermutation-sym, IsPermutation-to_front}
use Rattle.std.proofs.lemmas.Map.Keys.{IsDistinct-head, IsDistinct-tail, IsDistinct-push, IsDistinct-IsPermutation}
use Rattle.std.proofs.lemmas.Map.Made.{is_member-Decides}
use Rattle.fab_reach_base.specs.fab_lemmas.Firsts.{HasAt}
use Rattle.fab_reach_base.proofs.fab_lemmas.SeenSets.{tie_decides}
use Rattle.fab_reach_base.specs.fab_names.Orders.{name_cmp}
use Rattle.fab_reach_base.proofs.fab_names.OrderLaws.{name_total, name_exact}
use Rattle.fab_world.specs.History.{changes_at, changes_of}
use Rattle.fab_world.specs.PlanRecords.{PlanRecord}
use Rattle.fab_world.specs.Plans.{Change, IsActive}
use Rattle.fab_world.specs.Soundness.{ListsActive}
use Rattle.fab_desk_commands.proofs.Undos.{undo_at, active_too}

-- two names are one or differ
one_or_two : (k n : List ℕ) → (k ≡ n) ⊎ (k ≢ n)
one_or_two k n = by (eq_by_cmp name_cmp k n) refl
  where
    by : (b : Bool) → eq_by_cmp name_cmp k n ≡ b → (k ≡ n) ⊎ (k ≢ n)
    by true is = inl (name_exact k n ((Equal-is (name_cmp k n)).0 is))
    by false is = inr (λ e. true≢false (sym (subst (λ q. eq_by_cmp name_cmp k q ≡ true) e (ap is_eq (tied_itself name_total k))) ∙ is))

-- a name that is not there is not there from the other end
pub absent_reversed : (names : List (List ℕ)) (n : List ℕ) → ¬ Contains names n → ¬ Contains (reverse names) n
absent_reversed names n absent h = absent (Contains-permutation (reverse names) names n (IsPermutation-sym names (reverse names) (IsPermutation-reverse names)) h)

-- the last of names that differ is not before
pub absent_before : (rest : List (List ℕ)) (n : List ℕ) → IsDistinct (eq_by_cmp name_cmp) (rest ++ n ∷ []) → ¬ Contains rest n
absent_before rest n once h =
    let front = IsDistinct-IsPermutation (eq_by_cmp name_cmp) (eq_by_cmp_equiv name_total).symm (rest ++ n ∷ []) (n ∷ rest) (IsPermutation-to_front rest n) once in
    let apart = All-from_recursion (λ y. eq_by_cmp name_cmp n y ≡ false) rest (IsDistinct-head (eq_by_cmp name_cmp) n rest front) in
    true≢false (sym (ap is_eq (tied_itself name_total n)) ∙ All-contains (λ y. eq_by_cmp name_cmp n y ≡ false) rest n apart h)

once_before : (rest : List (List ℕ)) (n : List ℕ) → IsDistinct (eq_by_cmp name_cmp) (rest ++ n ∷ []) → IsDistinct (eq_by_cmp name_cmp) rest
once_before rest n once = IsDistinct-tail (eq_by_cmp name_cmp) n rest (IsDistinct-IsPermutation (eq_by_cmp name_cmp) (eq_by_cmp_equiv name_total).symm (rest ++ n ∷ []) (n ∷ rest) (IsPermutation-to_front rest n) once)

once_more : (order : List (List ℕ)) (n : List ℕ) → IsDistinct (eq_by_cmp name_cmp) order → ¬ Contains order n → IsDistinct (eq_by_cmp name_cmp) (order ++ n ∷ [])
once_more order n once absent = IsDistinct-push (eq_by_cmp_equiv name_total) order n once new
  where
    new : list_any (eq_by_cmp name_cmp n) order ≡ false
    new = elim (cases_Bool (list_any (eq_by_cmp name_cmp n) order)) [ inl t ↦ absurd (absent ((is_member-Decides (tie_decides name_total name_exact) order n).0 t)) | inr f ↦ f ]

-- what the last of the names changed comes first
pub last_first : (plans : List ℕ → Option PlanRecord) (rest : List (List ℕ)) (n : List ℕ) → changes_of plans (reverse (rest ++ n ∷ [])) ≡ changes_at plans n ++ changes_of plans (reverse rest)
last_first plans rest n = ap (changes_of plans) (reverse-append rest (n ∷ []))

-- plans that are undone alike under all names but one
module _ (plans others : List ℕ → Option PlanRecord) (n : List ℕ) (beside : (k : List ℕ) → k ≢ n → undo_at (others k) ≡ undo_at (plans k)) where
  -- names without it changed the same
  pub changes_beside : (names : List (List ℕ)) → ¬ Contains names n → changes_of others names ≡ changes_of plans names
  changes_beside [] absent = refl
  changes_beside (k ∷ ks) absent =
      let apart : k ≢ n = λ e. let here : Contains (k ∷ ks) n = (0, omega arith, e) in absent here in
      ap (λ (o : Option Change). option_to_list o ++ changes_of others ks) (beside k apart)
      ∙ ap (λ (changes : List Change). changes_at plans k ++ changes) (changes_beside ks (λ h. absent (Contains-append_right (k ∷ []) ks n h)))

  -- it is active now, and comes last
  pub listing_with : (order : List (List ℕ)) → ListsActive plans order → ¬ HasAt plans IsActive n → HasAt others IsActive n → ListsActive others (order ++ n ∷ [])
  listing_with order l before now = record { lists = λ k. (listed k, active k); each_once = once_more order n l.each_once (λ h. before ((l.lists n).0 h)) }
    where
      listed : (k : List ℕ) → Contains (order ++ n ∷ []) k → HasAt others IsActive k
      listed k h = elim (Contains-push_cases order n k h) [
        | inl old ↦ let a = (l.lists k).0 old in (active_too plans others k (beside k (λ e. before (subst (HasAt plans IsActive) e a)))).0 a
        | inr e ↦ subst (HasAt others IsActive) e now
      ]

      active : (k : List ℕ) → HasAt others IsActive k → Contains (order ++ n ∷ []) k
      active k h = elim (one_or_two k n) [
        | inl e ↦ subst (Contains (order ++ n ∷ [])) (sym e) (Contains-push order n)
        | inr apart ↦ Contains-append_left order (n ∷ []) k ((l.lists k).1 ((active_too plans others k (beside k apart)).1 h))
      ]

  -- it was the last, and is active no longer
  pub listing_without : (rest : List (List ℕ)) → ListsActive plans (rest ++ n ∷ []) → ¬ HasAt others IsActive n → ListsActive others rest
  listing_without rest l gone = record { lists = λ k. (listed k, active k); each_once = once_before rest n l.each_once }
    where
      listed : (k : List ℕ) → Contains rest k → HasAt others IsActive k
      listed k h =
          let apart : k ≢ n = λ e. absent_before rest n l.each_once (subst (Contains rest) e h) in
          (active_too plans others k (beside k apart)).0 ((l.lists k).0 (Contains-append_left rest (n ∷ []) k h))

      active : (k : List ℕ) → HasAt others IsActive k → Contains rest k
      active k h =
          let apart : k ≢ n = λ e. gone (subst (HasAt others IsActive) e h) in
          elim (Contains-push_cases rest n k ((l.lists k).1 ((active_too plans others k (beside k apart)).1 h))) [ inl old ↦ old | inr e ↦ absurd (apart (sym e)) ]
