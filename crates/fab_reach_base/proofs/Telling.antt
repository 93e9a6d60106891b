-- What can be told: that it is so, or that it is not so.
use Rattle.std.proofs.Common.{suc, ◌≡◌, ◌⊎◌, inl, inr, List, [], ◌∷◌, Contains, All, Option, None, Some, true, is_some, refl, sym, ap, ◌∙◌, subst, arith}
use native.Mathlib.Decide.{ℕ_discrete}
use base.Stored.{Gv, gnil, gnum, gcons, num, Coded}
use Rattle.std.specs.declared.cmp.Ordering.{Ordering}
use Rattle.std.specs.Cmp.{IsTotalOrder, eq_by_cmp_equiv}
use Rattle.std.specs.FinMap as map
use Rattle.std.specs.FinSet as set
use Rattle.std.proofs.lemmas.List.Elements.{All-nil, All-cons, All-contains}
use Rattle.std.proofs.lemmas.Option.{same_Some}
use Rattle.std.proofs.lemmas.Map.Views.{Contains-from_any, list_any-from_Contains, tells_apart}

-- it is so, or it is not
abbrev pub Told : Type 0 → Type 0
Told P = P ⊎ ¬ P

pub both : {P Q : Type 0} → Told P → Told Q → Told (P × Q)
both (inl p) (inl q) = inl (p, q)
both (inl p) (inr n) = inr (λ h. n h.1)
both (inr n) q = inr (λ h. n h.0)

pub all_three : {P Q R : Type 0} → Told P → Told Q → Told R → Told (P × Q × R)
all_three (inl p) (inl q) (inl r) = inl (p, q, r)
all_three (inl p) (inl q) (inr n) = inr (λ h. n h.2)
all_three (inl p) (inr n) r = inr (λ h. n h.1)
all_three (inr n) q r = inr (λ h. n h.0)

pub either : {P Q : Type 0} → Told P → Told Q → Told (P ⊎ Q)
either (inl p) q = inl (inl p)
either (inr n) (inl q) = inl (inr q)
either (inr n) (inr m) = inr (λ h. elim h [ inl p ↦ n p | inr q ↦ m q ])

pub negated : {P : Type 0} → Told P → Told (¬ P)
negated (inl p) = inr (λ n. n p)
negated (inr n) = inl n

-- the same in other words
pub as_told : {P Q : Type 0} → (P → Q) → (Q → P) → Told P → Told Q
as_told f g (inl p) = inl (f p)
as_told f g (inr n) = inr (λ q. n (g q))

-- ---- whether two values are one

same_code : (a b : Gv) → Told (a ≡ b)
same_code gnil gnil = inl refl
same_code gnil (gnum n) = inr (λ e. absurd cc)
same_code gnil (gcons c d) = inr (λ e. absurd cc)
same_code (gnum m) gnil = inr (λ e. absurd cc)
same_code (gnum m) (gnum n) = elim (ℕ_discrete m n) [ yes e ↦ inl (ap gnum e) | no other ↦ inr (λ e. other (ap num e)) ]
same_code (gnum m) (gcons c d) = inr (λ e. absurd cc)
same_code (gcons a b) gnil = inr (λ e. absurd cc)
same_code (gcons a b) (gnum n) = inr (λ e. absurd cc)
same_code (gcons a b) (gcons c d) = as_told (λ h i. gcons (h.0 i) (h.1 i)) (λ e. (cc, cc)) (both (same_code a c) (same_code b d))

-- of values with a code
pub same_by : {A : Type 0} → Coded A → (x y : A) → Told (x ≡ y)
same_by c x y = as_told (c.inj x y) (ap c.code) (same_code (c.code x) (c.code y))

-- ---- whether some item has it

pub in_list : {X : Type 0} (P : X → Type 0) → ((x : X) → Told (P x)) → (xs : List X) → ((x : X) × Contains xs x × P x) ⊎ All (λ x. ¬ P x) xs
in_list {X = X} P each [] = inr (All-nil (λ x. ¬ P x))
in_list {X = X} P each (x ∷ xs) =
    elim (each x) [
      | inl p ↦ inl (x, first x xs, p)
      | inr n ↦ elim (in_list P each xs) [ inl w ↦ inl (w.0, later x xs w.0 w.1, w.2) | inr none ↦ inr (All-cons (λ y. ¬ P y) x xs n none) ]
    ]
  where
    first : (x : X) (xs : List X) → Contains (x ∷ xs) x
    first x xs = (0, omega arith, refl)

    later : (x : X) (xs : List X) (y : X) → Contains xs y → Contains (x ∷ xs) y
    later x xs y (k, lt, is) = (suc k, omega arith, is)

-- what is found at a key
pub at_key : {X : Type 0} (a : Option X) (P : X → Type 0) → ((x : X) → Told (P x)) → Told ((x : X) × (a ≡ Some x) × P x)
at_key None P each = inr (λ w. absurd cc)
at_key (Some x) P each = as_told (λ p. (x, refl, p)) (λ w. subst P (sym (same_Some x w.0 w.1)) w.2) (each x)

module _ {K : Type 0} {R : K → K → Ordering} (o : IsTotalOrder R) (exact : set.IsAntisymmetric R) where
  -- some item of the set
  pub in_set : (s : set.FinSet R) (P : K → Type 0) → ((k : K) → Told (P k)) → Told ((k : K) × (set.contains s k ≡ true) × P k)
  in_set s P each =
      elim (in_list P each (set.items s)) [
        | inl w ↦ inl (w.0, set.contains-items s w.0 ∙ list_any-from_Contains (eq_by_cmp_equiv o) w.0 (set.items s) w.1, w.2)
        | inr none ↦ inr (λ w. All-contains (λ k. ¬ P k) (set.items s) w.0 none (Contains-from_any (tells_apart exact) w.0 (set.items s) (sym (set.contains-items s w.0) ∙ w.1)) w.2)
      ]

  -- some entry of the map
  pub in_map : {X : Type 0} (m : map.FinMap R X) (P : K → X → Type 0) → ((k : K) (x : X) → Told (P k x)) → Told ((k : K) × (x : X) × (map.get m k ≡ Some x) × P k x)
  in_map {X = X} m P each =
      elim (in_list Q (λ k. at_key (map.get m k) (P k) (each k)) (map.keys m)) [
        | inl w ↦ inl (w.0, w.2.0, w.2.1, w.2.2)
        | inr none ↦ inr (λ w. All-contains (λ k. ¬ Q k) (map.keys m) w.0 none (Contains-from_any (tells_apart exact) w.0 (map.keys m) (sym (map.contains_key-keys m w.0) ∙ ap is_some w.2)) (w.1, w.2, w.3))
      ]
    where
      Q : K → Type 0
      Q k = (x : X) × (map.get m k ≡ Some x) × P k x
