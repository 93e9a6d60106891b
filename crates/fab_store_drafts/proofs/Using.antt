-- What nothing uses.
use Rattle.std.proofs.Common.{ℕ, ◌≡◌, ◌↔◌, ◌⊎◌, inl, inr, List, [], ◌∷◌, length, Bool, true, false, not, Some, refl, sym, ap, ◌∙◌, arith}
use mathlib.Core.Bool.{true≢false}
use Rattle.std.specs.BTreeMap.{get}
use Rattle.std.specs.BTreeSet.{BTreeSet, contains}
use Rattle.fab_reach_base.specs.fab_lemmas.MapsOfSets.{in_tree}
use Rattle.fab_reach_base.proofs.fab_lemmas.Tests.{is_false}
use Rattle.fab_reach_base.specs.fab_names.Orders.{name_cmp}
use Rattle.fab_reach_base.proofs.fab_names.OrderLaws.{name_total}
use Rattle.fab_reach_base.proofs.fab_zoning.SeenItems.{some_key}
use Rattle.fab_store_drafts.specs.UsedKeys.{used_cmp}
use Rattle.fab_store_drafts.specs.Users.{IsUse}
use Rattle.fab_store_drafts.specs.declared.uses.Used.{Used}
use Rattle.fab_store_drafts.specs.declared.users.Users.{Users}

nothing_in : (ks : List (List ℕ)) → length ks ≡ 0 → (n : List ℕ) → contains name_cmp (record { keys = ks }) n ≡ false
nothing_in [] e n = refl
nothing_in (k ∷ ks) e n = absurd (omega (arith, e))

-- something uses it just where its set is not empty
module _ {A : Type 0} (u : Users A) (w : Used) (s : BTreeSet (List ℕ)) (at : Some s ≡ get used_cmp u.users w) where
  some_user : (e : Bool) → (e ≡ true ↔ (length s.keys ≡ 0)) → not e ≡ true → (n : List ℕ) × IsUse u (w, n)
  some_user true empty t = absurd (true≢false (sym t))
  some_user false empty t = let k = some_key name_total s (λ none. true≢false (sym (empty.1 (ap length none)))) in (k.0, ap (λ o. in_tree name_cmp o k.0) (sym at) ∙ k.1)

  not_empty : (e : Bool) → (e ≡ true ↔ (length s.keys ≡ 0)) → (n : List ℕ) × IsUse u (w, n) → not e ≡ true
  not_empty true empty x = absurd (true≢false (sym (ap (λ o. in_tree name_cmp o x.0) at ∙ x.1) ∙ nothing_in s.keys (empty.0 refl) x.0))
  not_empty false empty x = refl

  pub used_is : (e : Bool) → (e ≡ true ↔ (length s.keys ≡ 0)) → (not e ≡ true → (n : List ℕ) × IsUse u (w, n)) × ((n : List ℕ) × IsUse u (w, n) → not e ≡ true)
  used_is e empty = (some_user e empty, not_empty e empty)

-- what is not there has to be used by nothing
module _ (K : Type 0) (P : List ℕ → Type 0) (gone : ¬ K) where
  pub spared : (b : Bool) → (b ≡ true → (n : List ℕ) × P n) × ((n : List ℕ) × P n → b ≡ true) → (not b ≡ true → K ⊎ ((n : List ℕ) → ¬ P n)) × (K ⊎ ((n : List ℕ) → ¬ P n) → not b ≡ true)
  spared true uses = (λ e. absurd (true≢false (sym e)), λ h. elim h [ inl k ↦ absurd (gone k) | inr none ↦ let w = uses.0 refl in absurd (none w.0 w.1) ])
  spared false uses = (λ e. inr (λ n p. true≢false (sym (uses.1 (n, p)))), λ h. refl)

-- the same of tests
pub spared_by : (K : Type 0) (has : List ℕ → Bool) (b : Bool) → ¬ K → (b ≡ true → (n : List ℕ) × (has n ≡ true)) × ((n : List ℕ) × (has n ≡ true) → b ≡ true)
    → (not b ≡ true → K ⊎ ((n : List ℕ) → has n ≡ false)) × (K ⊎ ((n : List ℕ) → has n ≡ false) → not b ≡ true)
spared_by K has b gone uses =
    let s = spared K (λ n. has n ≡ true) gone b uses in (
      λ e. elim (s.0 e) [ inl k ↦ inl k | inr none ↦ inr (λ n. is_false (has n) (none n)) ],
      λ h. elim h [ inl k ↦ s.1 (inl k) | inr none ↦ s.1 (inr (λ n t. true≢false (sym t ∙ none n))) ],
    )
