-- The rows of approvals of one plan, as they are listed caller by caller.
use Rattle.std.proofs.Common.{◌≡◌, ◌↔◌, ℕ, List, [], ◌∷◌, ◌++◌, Contains, Option, None, Some, inl, inr, refl, sym, ap, ◌∙◌, subst}
use Rattle.std.specs.declared.cmp.Ordering.{Ordering}
use Rattle.std.specs.declared.cmp.Ordering.TheVariants.{Less, Equal}
use Rattle.std.specs.Cmp.{IsTotalOrder, Equal-is, eq_by_cmp_equiv, tied_itself}
use Rattle.std.specs.Ordering.{nat_cmp, eq_by_cmp, ordering_then, on}
use Rattle.std.specs.BTreeMap.{BTreeMap, IsOrdered, get}
use Rattle.std.specs.FinMap as map
use Rattle.std.specs.FinSet as set
use Rattle.std.specs.List.Sorted.{IsStrictlySortedBy}
use Rattle.std.specs.Map.{keys_of}
use Rattle.std.proofs.lemmas.Map.Keys.{IsDistinct-from_sorted}
use Rattle.std.proofs.lemmas.Map.Views.{Contains-from_lookup, lookup-from_Contains}
use Rattle.std.proofs.lemmas.Option.{same_Some}
use Rattle.fab_reach_base.specs.fab_lemmas.Lists.{IsListOf}
use Rattle.fab_reach_base.proofs.fab_lemmas.Filters.{list_as}
use Rattle.fab_reach_base.specs.fab_names.Orders.{name_cmp}
use Rattle.fab_reach_base.proofs.fab_names.OrderLaws.{name_total, name_exact}
use Rattle.fab_store_rows.specs.declared.record_row.ApprovalRow.{ApprovalRow}
use Rattle.fab_store_world.specs.PlanRows.{IsApprovalOf}
use Rattle.fab_world.specs.PlanRecords.{PlanRecord}
use Rattle.fab_store_world.specs.Keys.{approval_order}
use Rattle.fab_store_world.proofs.Picked.{Picked, picked_more, picked_skip}
use Rattle.fab_desk_rows.specs.PlanMoves.{IsPushed, IsGivenOnlyIn, IsOfOne, AreApprovalsMoved}
use Rattle.fab_desk_rows.proofs.Listed.{none_listed}
use Rattle.fab_desk_rows.proofs.Sorted.{sorted_as}

-- a look-up finds just the entries
entry_of : {K X : Type 0} {R : K → K → Ordering} → IsTotalOrder R → set.IsAntisymmetric R → (t : BTreeMap K X) → IsOrdered R t → (k : K) (x : X) → (get R t k ≡ Some x) ↔ Contains t.entries (k, x)
entry_of {R = R} o exact t ordered k x = (
  λ h. Contains-from_lookup {eq = eq_by_cmp R} (λ y z e. exact y z ((Equal-is (R y z)).0 e)) k x t.entries h,
  λ h. lookup-from_Contains (eq_by_cmp_equiv o) k x t.entries (IsDistinct-from_sorted R (keys_of t.entries) ordered) h,
)

module _ (n : List ℕ) (others : List ℕ → Option ℕ) where
  abbrev pub IsNew : List ℕ × ℕ → Type 0
  IsNew e = ¬ (others e.0 ≡ Some e.1)

  abbrev pub row_at : List ℕ × ℕ → ApprovalRow
  row_at e = record { plan = n; caller = e.0; revision = e.1 }

  -- the rows of the approvals so far
  abbrev pub SoFar : List (List ℕ × ℕ) → List ApprovalRow → Type 0
  SoFar = Picked name_cmp (λ (r : ApprovalRow). r.caller) IsNew row_at

  -- one approval more
  pub one_more : (before more : List (List ℕ × ℕ)) (e : List ℕ × ℕ) (old new : List ApprovalRow) → IsStrictlySortedBy name_cmp (keys_of (before ++ e ∷ more)) → IsPushed (IsNew e) (row_at e) old new → SoFar before old → SoFar (before ++ e ∷ []) new
  one_more before more e old new s (inl (own, is)) so = subst (SoFar (before ++ e ∷ [])) (sym is) (picked_more name_cmp (λ (r : ApprovalRow). r.caller) IsNew row_at (λ d. refl) before more e old s own so)
  one_more before more e old new s (inr (not, is)) so = subst (SoFar (before ++ e ∷ [])) (sym is) (picked_skip name_cmp (λ (r : ApprovalRow). r.caller) IsNew row_at before e old not so)

  by_caller : (r s : ApprovalRow) → r.plan ≡ n → s.plan ≡ n → name_cmp r.caller s.caller ≡ Less → approval_order r s ≡ Less
  by_caller r s here there less =
      let tied : name_cmp r.plan s.plan ≡ Equal = ap (λ m. name_cmp m s.plan) here ∙ ap (name_cmp n) there ∙ tied_itself name_total n in
      ap (λ x. ordering_then x (ordering_then (name_cmp r.caller s.caller) (nat_cmp r.revision s.revision))) tied ∙ ap (λ x. ordering_then x (nat_cmp r.revision s.revision)) less

  -- all of them
  pub given_listed : (t : BTreeMap (List ℕ) ℕ) (es : List (List ℕ × ℕ)) (rows : List ApprovalRow) → IsOrdered name_cmp t → es ≡ t.entries → SoFar es rows → IsListOf approval_order (IsGivenOnlyIn n (get name_cmp t) others) rows
  given_listed t es rows ordered is so = record {
    sorted = sorted_as (on (λ (r : ApprovalRow). r.caller) name_cmp) approval_order (λ r. r.plan ≡ n) by_caller rows (λ r h. (sound r h).0) so.sorted;
    sound = sound;
    complete = complete;
  }
    where
      sound : (r : ApprovalRow) → Contains rows r → IsGivenOnlyIn n (get name_cmp t) others r
      sound r h =
          let w = so.sound r h in
          subst (IsGivenOnlyIn n (get name_cmp t) others) (sym w.3) (refl, (entry_of name_total name_exact t ordered w.0.0 w.0.1).1 (subst (λ xs. Contains xs w.0) is w.1), w.2)

      complete : (r : ApprovalRow) → IsGivenOnlyIn n (get name_cmp t) others r → Contains rows r
      complete r h =
          let e : List ℕ × ℕ = (r.caller, r.revision) in
          let there = subst (λ xs. Contains xs e) (sym is) ((entry_of name_total name_exact t ordered r.caller r.revision).0 h.1) in
          let same : row_at e ≡ r = λ i. record { plan = sym h.0 i; caller = r.caller; revision = r.revision } in
          subst (Contains rows) same (so.complete e there h.2)

-- ---- what a plan has, and another has not

module _ (n : List ℕ) (p : PlanRecord) where
  pub of_one : (q : PlanRecord) (given others : List ℕ → Option ℕ) (rows : List ApprovalRow) → given ≡ map.get p.approvals → others ≡ map.get q.approvals → IsListOf approval_order (IsGivenOnlyIn n given others) rows → IsListOf approval_order (IsOfOne (λ r. r.plan) IsApprovalOf n (Some p) (Some q)) rows
  of_one q given others rows is apart = list_as (IsGivenOnlyIn n given others) (IsOfOne (λ r. r.plan) IsApprovalOf n (Some p) (Some q)) rows
      (λ r h. (
        h.0,
        (p, refl, subst (λ (at : List ℕ → Option ℕ). at r.caller ≡ Some r.revision) is h.1),
        λ k. h.2 (subst (λ (at : List ℕ → Option ℕ). at r.caller ≡ Some r.revision) (sym apart) (subst (IsApprovalOf r) (sym (same_Some q k.0 k.1)) k.2)),
      ))
      (λ r h. (
        h.0,
        subst (λ (at : List ℕ → Option ℕ). at r.caller ≡ Some r.revision) (sym is) (subst (IsApprovalOf r) (sym (same_Some p h.1.0 h.1.1)) h.1.2),
        λ k. h.2 (q, refl, subst (λ (at : List ℕ → Option ℕ). at r.caller ≡ Some r.revision) apart k),
      ))

  -- where there was no plan
  pub of_new : (given others : List ℕ → Option ℕ) (xs ys : List ApprovalRow) → given ≡ map.get p.approvals → ((q : List ℕ) → others q ≡ None) → xs ≡ [] → IsListOf approval_order (IsGivenOnlyIn n given others) ys → AreApprovalsMoved n None (Some p) xs ys
  of_new given others xs ys is none empty l = record {
    removed = none_listed approval_order (IsOfOne (λ r. r.plan) IsApprovalOf n None (Some p)) xs empty (λ r h. let no : ◌≡◌ {A = Option PlanRecord} None (Some h.1.0) = h.1.1 in absurd cc);
    added = list_as (IsGivenOnlyIn n given others) (IsOfOne (λ r. r.plan) IsApprovalOf n (Some p) None) ys
        (λ r h. (
          h.0,
          (p, refl, subst (λ (at : List ℕ → Option ℕ). at r.caller ≡ Some r.revision) is h.1),
          λ k. let no : ◌≡◌ {A = Option PlanRecord} None (Some k.0) = k.1 in absurd cc,
        ))
        (λ r h. (
          h.0,
          subst (λ (at : List ℕ → Option ℕ). at r.caller ≡ Some r.revision) (sym is) (subst (IsApprovalOf r) (sym (same_Some p h.1.0 h.1.1)) h.1.2),
          λ k. let no : ◌≡◌ {A = Option ℕ} None (Some r.revision) = sym (none r.caller) ∙ k in absurd cc,
        ))
        l;
  }

  same_has : (q : PlanRecord) → p.approvals ≡ q.approvals → (r : ApprovalRow) → ¬ IsOfOne (λ (s : ApprovalRow). s.plan) IsApprovalOf n (Some p) (Some q) r
  same_has q same r h = h.2 (q, refl, subst (λ m. map.get m r.caller ≡ Some r.revision) same (subst (IsApprovalOf r) (sym (same_Some p h.1.0 h.1.1)) h.1.2))

-- where the approvals are the same
pub approvals_stay : (n : List ℕ) (p q : PlanRecord) (xs ys : List ApprovalRow) → p.approvals ≡ q.approvals → xs ≡ [] → ys ≡ [] → AreApprovalsMoved n (Some p) (Some q) xs ys
approvals_stay n p q xs ys same no_x no_y = record {
  removed = none_listed approval_order (IsOfOne (λ r. r.plan) IsApprovalOf n (Some p) (Some q)) xs no_x (same_has n p q same);
  added = none_listed approval_order (IsOfOne (λ r. r.plan) IsApprovalOf n (Some q) (Some p)) ys no_y (same_has n q p (sym same));
}
