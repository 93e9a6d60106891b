-- Lists that are filled item by item.
use Rattle.std.proofs.Common.{◌≡◌, ◌<◌, ◌≤◌, ◌+◌, ℕ, length, take, get_or, List, [], ◌∷◌, ◌++◌, Contains, Bool, not, Option, IsSome, is_some, true, false, ◌==◌, inl, inr, refl, sym, ap, ◌∙◌, subst, arith}
use mathlib.Core.Bool.{true≢false}
use Rattle.std.proofs.lemmas.Bool.{eqb-true}
use Rattle.std.proofs.lemmas.List.{take_more, take_all}
use Rattle.std.proofs.lemmas.List.Elements.{Contains-push_cases, Contains-append_left, Contains-push}
use Rattle.fab_reach_base.proofs.Adding.{Before}
use Rattle.fab_looks.specs.Inner.Offers.{AreJust}

-- the same, of a property said otherwise
pub just_as : {X : Type 0} (P Q : X → Type 0) (xs : List X) → ((x : X) → P x → Q x) → ((x : X) → Q x → P x) → AreJust P xs → AreJust Q xs
just_as P Q xs to from h x = ((λ c. to x ((h x).0 c)), λ q. (h x).1 (from x q))

-- an empty list: nothing has the property
pub none_has : {X : Type 0} (P : X → Type 0) (xs : List X) → xs ≡ [] → AreJust P xs → (x : X) → ¬ P x
none_has P xs none h x p = let c = subst (λ ys. Contains ys x) none ((h x).1 p) in omega (arith, c.1)

-- one that is not empty: something has
pub some_has : {X : Type 0} (P : X → Type 0) (xs : List X) → ¬ (xs ≡ []) → AreJust P xs → (x : X) × P x
some_has P [] some h = absurd (some refl)
some_has P (x ∷ xs) some h = (x, (h x).0 (0, omega arith, refl))

module _ {K X : Type 0} (Q : K → X → Type 0) where
  pub gathered_none : AreJust (Before Q []) []
  gathered_none x = ((λ h. let e : ⊥ = omega (arith, h.1) in absurd e), λ w. let e : ⊥ = omega (arith, w.1.1) in absurd e)

  -- an item that gives one
  pub gathered_more : (before : List K) (k : K) (xs : List X) (x : X) → ((y : X) → Q k y → y ≡ x) → Q k x → AreJust (Before Q before) xs → AreJust (Before Q (before ++ k ∷ [])) (xs ++ x ∷ [])
  gathered_more before k xs x only q h y = (
    (λ c. elim (Contains-push_cases xs x y c) [
      | inl o ↦ let w = (h y).0 o in (w.0, Contains-append_left before (k ∷ []) w.0 w.1, w.2)
      | inr e ↦ (k, Contains-push before k, subst (Q k) e q)
    ]),
    λ w. elim (Contains-push_cases before k w.0 w.1) [
      | inl o ↦ Contains-append_left xs (x ∷ []) y ((h y).1 (w.0, o, w.2))
      | inr e ↦ subst (Contains (xs ++ x ∷ [])) (sym (only y (subst (λ z. Q z y) (sym e) w.2))) (Contains-push xs x)
    ],
  )

  -- one that gives none
  pub gathered_skip : (before : List K) (k : K) (xs : List X) → ((y : X) → ¬ Q k y) → AreJust (Before Q before) xs → AreJust (Before Q (before ++ k ∷ [])) xs
  gathered_skip before k xs none h y = (
    (λ c. let w = (h y).0 c in (w.0, Contains-append_left before (k ∷ []) w.0 w.1, w.2)),
    λ w. elim (Contains-push_cases before k w.0 w.1) [
      | inl o ↦ (h y).1 (w.0, o, w.2)
      | inr e ↦ absurd (none y (subst (λ z. Q z y) (sym e) w.2))
    ],
  )

  -- ---- over a slice, by its index

  next_is : (ks : List K) (i : ℕ) (k : K) → i < length ks → k ≡ get_or ks i k → take i ks ++ k ∷ [] ≡ take (i + 1) ks
  next_is ks i k h is = ap (λ x. take i ks ++ x ∷ []) is ∙ sym (take_more ks i k h)

  pub gathered_next : (ks : List K) (i : ℕ) (k : K) (xs : List X) (x : X) → i < length ks → k ≡ get_or ks i k → ((y : X) → Q k y → y ≡ x) → Q k x → AreJust (Before Q (take i ks)) xs → AreJust (Before Q (take (i + 1) ks)) (xs ++ x ∷ [])
  gathered_next ks i k xs x h is only q a = subst (λ ys. AreJust (Before Q ys) (xs ++ x ∷ [])) (next_is ks i k h is) (gathered_more (take i ks) k xs x only q a)

  pub gathered_pass : (ks : List K) (i : ℕ) (k : K) (xs : List X) → i < length ks → k ≡ get_or ks i k → ((y : X) → ¬ Q k y) → AreJust (Before Q (take i ks)) xs → AreJust (Before Q (take (i + 1) ks)) xs
  gathered_pass ks i k xs h is none a = subst (λ ys. AreJust (Before Q ys) xs) (next_is ks i k h is) (gathered_skip (take i ks) k xs none a)

  pub gathered_last : (ks : List K) (i : ℕ) (xs : List X) → length ks ≤ i → AreJust (Before Q (take i ks)) xs → AreJust (Before Q ks) xs
  gathered_last ks i xs h a = subst (λ ys. AreJust (Before Q ys) xs) (take_all i ks h) a

-- ---- whether a list is empty, by a count

pub bare : {X : Type 0} (xs : List X) → length xs ≡ 0 → xs ≡ []
bare [] e = refl
bare (x ∷ xs) e = let f : ⊥ = omega arith in absurd f

pub not_bare : {X : Type 0} (xs : List X) → ¬ (length xs ≡ 0) → ¬ (xs ≡ [])
not_bare xs some none = some (ap length none)

pub has_none : {X : Type 0} (xs : List X) (n : ℕ) (b : Bool) → n ≡ length xs → b ≡ (n == 0) → b ≡ true → xs ≡ []
has_none xs n b len e t = bare xs (sym len ∙ eqb-true n 0 (sym e ∙ t))

pub has_some : {X : Type 0} (xs : List X) (n : ℕ) (b : Bool) → n ≡ length xs → b ≡ (n == 0) → b ≡ false → ¬ (xs ≡ [])
has_some xs n b len e f none = true≢false (sym (e ∙ ap (λ m. m == 0) (len ∙ ap length none)) ∙ f)

-- ---- whether there is a value

pub no_value : {V : Type 0} (o p : Option V) (b : Bool) → o ≡ p → is_some o ≡ not b → b ≡ true → ¬ IsSome p
no_value o p b same e t h = true≢false (sym h ∙ sym (ap is_some same) ∙ e ∙ ap not t)

pub a_value : {V : Type 0} (o p : Option V) (b : Bool) → o ≡ p → is_some o ≡ not b → b ≡ false → IsSome p
a_value o p b same e t = sym (ap is_some same) ∙ e ∙ ap not t
