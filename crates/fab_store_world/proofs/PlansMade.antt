-- Plans that are made of rows, row by row.
use Rattle.std.proofs.Common.{◌≡◌, ◌<◌, ◌≤◌, ◌+◌, ℕ, ◌⊎◌, inl, inr, List, [], length, Option, None, Some, is_some, slice_get, Bool, true, false, cond, refl, sym, ap, ◌∙◌, subst, arith}
use mathlib.Core.Bool.{true≢false}
use Rattle.std.specs.Ordering.{is_eq}
use Rattle.std.specs.Cmp.{Equal-is, tied_itself}
use Rattle.std.specs.BTreeMap.{BTreeMap, get, is_at}
use Rattle.std.specs.Map.{lookup}
use Rattle.std.proofs.lemmas.Option.{slice_get_read, slice_get_within, get_or_from_slice_get, same_Some}
use Rattle.std.proofs.lemmas.Bool.{cases_lt}
use Rattle.fab_reach_base.specs.fab_lemmas.Firsts.{HasAt}
use Rattle.fab_reach_base.specs.fab_names.Orders.{name_cmp}
use Rattle.fab_reach_base.proofs.fab_names.OrderLaws.{name_total, name_exact}
use Rattle.fab_world.specs.fab_store_rows.PlanEntries.{PlanEntry}
use Rattle.fab_world.specs.PlanRecords.{PlanRecord}
use Rattle.fab_store_world.specs.declared.plans.PlanParts.{PlanParts}
use Rattle.fab_world.specs.fab_plans_text.KeptTexts.{IsTextOf}
use Rattle.fab_store_world.specs.PlanRows.{ArePlanRows}
use Rattle.fab_store_world.specs.Parts.{IsMadeOf, AreMadeOf}

module _ {A : Type 0} (rows : List PlanEntry) (parts : PlanParts A) where
  -- the plans of the rows before this place
  pub record SoFar (k : ℕ) (plans : List ℕ → Option PlanRecord) : Type 0 where
    pub each : (i : ℕ) (r : PlanEntry) → i < k → slice_get rows i ≡ Some r → HasAt plans (IsMadeOf r parts) r.name
    pub every : (n : List ℕ) (p : PlanRecord) → plans n ≡ Some p → (i : ℕ) × (r : PlanEntry) × (i < k) × (slice_get rows i ≡ Some r) × (r.name ≡ n)
    pub once : (i j : ℕ) (r s : PlanEntry) → i < k → j < k → slice_get rows i ≡ Some r → slice_get rows j ≡ Some s → r.name ≡ s.name → i ≡ j

  -- no row yet
  pub none_yet : (plans : List ℕ → Option PlanRecord) → ((n : List ℕ) → plans n ≡ None) → SoFar 0 plans
  none_yet plans none = record {
    each = λ i r lt is. absurd (omega arith);
    every = λ n p is. let no : ◌≡◌ {A = Option PlanRecord} None (Some p) = sym (none n) ∙ is in absurd cc;
    once = λ i j r s lt more here there same. absurd (omega arith);
  }

  -- a row under a new name
  pub one_more : (k : ℕ) (r : PlanEntry) (p : PlanRecord) (plans next : List ℕ → Option PlanRecord) → slice_get rows k ≡ Some r → is_some (plans r.name) ≡ false → IsMadeOf r parts p
      → ((q : List ℕ) → next q ≡ cond (is_at (name_cmp r.name) q) (Some p) (plans q)) → SoFar k plans → SoFar (k + 1) next
  one_more k r p plans next here free made put so = record {
    each = λ i s lt is. each i s lt is;
    every = λ n q is. every n q (is_at (name_cmp r.name) n) refl is;
    once = λ i j s t lt more is at same. once i j s t lt more is at same;
  }
    where
      own : next r.name ≡ Some p
      own = put r.name ∙ ap (λ b. cond b (Some p) (plans r.name)) (ap is_eq (tied_itself name_total r.name))

      -- the name of a row before is another
      other : (s : PlanEntry) → HasAt plans (IsMadeOf s parts) s.name → is_at (name_cmp r.name) s.name ≡ true → ⊥
      other s at e =
          let same : r.name ≡ s.name = name_exact r.name s.name ((Equal-is (name_cmp r.name s.name)).0 e) in
          let there : is_some (plans r.name) ≡ true = ap (λ n. is_some (plans n)) same ∙ ap is_some at.1 in
          true≢false (sym there ∙ free)

      stays : (s : PlanEntry) (b : Bool) → is_at (name_cmp r.name) s.name ≡ b → HasAt plans (IsMadeOf s parts) s.name → HasAt next (IsMadeOf s parts) s.name
      stays s true e at = absurd (other s at e)
      stays s false e at = (at.0, put s.name ∙ ap (λ b. cond b (Some p) (plans s.name)) e ∙ at.1, at.2)

      place : (i : ℕ) → i < k + 1 → (i < k) ⊎ (i ≡ k)
      place i lt = elim (cases_lt i k) [ inl less ↦ inl less | inr most ↦ inr (omega (arith, lt, most)) ]

      each : (i : ℕ) (s : PlanEntry) → i < k + 1 → slice_get rows i ≡ Some s → HasAt next (IsMadeOf s parts) s.name
      each i s lt is = elim (place i lt) [
        | inl before ↦ stays s (is_at (name_cmp r.name) s.name) refl (so.each i s before is)
        | inr now ↦ let same : r ≡ s = same_Some r s (sym here ∙ ap (slice_get rows) (sym now) ∙ is) in subst (λ t. HasAt next (IsMadeOf t parts) t.name) same (p, own, made)
      ]

      every : (n : List ℕ) (q : PlanRecord) (b : Bool) → is_at (name_cmp r.name) n ≡ b → next n ≡ Some q → (i : ℕ) × (s : PlanEntry) × (i < k + 1) × (slice_get rows i ≡ Some s) × (s.name ≡ n)
      every n q true e is = (k, r, omega arith, here, name_exact r.name n ((Equal-is (name_cmp r.name n)).0 e))
      every n q false e is =
          let old : plans n ≡ Some q = ap (λ b. cond b (Some p) (plans n)) (sym e) ∙ sym (put n) ∙ is in
          let at = so.every n q old in
          (at.0, at.1, omega (arith, at.2), at.3, at.4)

      -- the name of the new row is that of no row before
      apart : (i : ℕ) (s : PlanEntry) → i < k → slice_get rows i ≡ Some s → r.name ≡ s.name → ⊥
      apart i s lt is same = other s (so.each i s lt is) (ap (λ n. is_at (name_cmp r.name) n) (sym same) ∙ ap is_eq (tied_itself name_total r.name))

      once : (i j : ℕ) (s t : PlanEntry) → i < k + 1 → j < k + 1 → slice_get rows i ≡ Some s → slice_get rows j ≡ Some t → s.name ≡ t.name → i ≡ j
      once i j s t lt more is at same = elim (place i lt) [
        | inl a ↦ elim (place j more) [
          | inl b ↦ so.once i j s t a b is at same
          | inr b ↦ let new : r ≡ t = same_Some r t (sym here ∙ ap (slice_get rows) (sym b) ∙ at) in absurd (apart i s a is (ap (λ (u : PlanEntry). u.name) new ∙ sym same))
        ]
        | inr a ↦ elim (place j more) [
          | inl b ↦ let new : r ≡ s = same_Some r s (sym here ∙ ap (slice_get rows) (sym a) ∙ is) in absurd (apart j t b at (ap (λ (u : PlanEntry). u.name) new ∙ same))
          | inr b ↦ a ∙ sym b
        ]
      ]

  -- all rows
  pub all_made : (k : ℕ) (plans : List ℕ → Option PlanRecord) → length rows ≤ k → SoFar k plans → AreMadeOf rows parts plans
  all_made k plans end so = record {
    each = λ r h. so.each h.0 r (let lt = h.1 in omega arith) (slice_get_read rows (length rows) h.0 r refl h.1 (sym h.2));
    every = λ n p is. let at = so.every n p is in (at.1, (at.0, slice_get_within rows at.0 at.1 at.3, get_or_from_slice_get rows at.0 at.1 at.1 at.3), at.4);
    once = λ i j r s is at same. let a = slice_get_within rows i r is in let b = slice_get_within rows j s at in so.once i j r s (omega arith) (omega arith) is at same;
  }

  -- a name that is there already
  pub repeated : (k : ℕ) (r : PlanEntry) (plans : List ℕ → Option PlanRecord) → slice_get rows k ≡ Some r → is_some (plans r.name) ≡ true → SoFar k plans → (others : List ℕ → Option PlanRecord) → ¬ ArePlanRows rows others
  repeated k r plans here there so others h = by (plans r.name) refl there
    where
      by : (o : Option PlanRecord) → plans r.name ≡ o → is_some o ≡ true → ⊥
      by None is some = true≢false (sym some)
      by (Some p) is some =
          let at = so.every r.name p is in
          let lt = at.2 in
          let same : at.0 ≡ k = h.once at.0 k at.1 r at.3 here at.4 in
          omega arith

  -- a text that is no plan's
  pub unread : (k : ℕ) (r : PlanEntry) → slice_get rows k ≡ Some r → ((p : PlanRecord) → ¬ IsTextOf r.text p.steps) → (others : List ℕ → Option PlanRecord) → ¬ ArePlanRows rows others
  unread k r here none others h =
      let at = h.each r (k, slice_get_within rows k r here, get_or_from_slice_get rows k r r here) in
      none at.0 at.2.text

-- an empty map has nothing
pub none_there : {X : Type 0} (t : BTreeMap (List ℕ) X) → t.entries ≡ [] → (n : List ℕ) → get name_cmp t n ≡ None
none_there t empty n = ap (λ es. lookup (is_at (name_cmp n)) es) empty
