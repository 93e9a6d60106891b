-- Two ordered lists with the same items are one.
use Rattle.std.proofs.Common.{◌≡◌, List, [], ◌∷◌, Bool, true, ◌⊎◌, inl, inr, refl, sym, ap, ◌∙◌, subst}
use mathlib.Core.Bool.{true≢false}
use Rattle.std.specs.declared.cmp.Ordering.{Ordering}
use Rattle.std.specs.declared.cmp.Ordering.TheVariants.{Less, Equal}
use Rattle.std.specs.Ordering.{eq_by_cmp, is_eq}
use Rattle.std.specs.Cmp.{IsTotalOrder, Equal-is, tied_itself}
use Rattle.std.specs.FinSet as set
use Rattle.std.specs.List.{list_any, AllByRecursion}
use Rattle.std.specs.List.Sorted.{IsStrictlySortedBy}
use Rattle.std.proofs.lemmas.Map.Keys.{sorted_head, sorted_tail}
use Rattle.fab_inventory.proofs.fab_lemmas.Tests.{or_true, or_right, or_left}

module _ {K : Type 0} {R : K → K → Ordering} (o : IsTotalOrder R) (exact : set.IsAntisymmetric R) where
  abbrev is_in : List K → K → Bool
  is_in ks k = list_any (eq_by_cmp R k) ks

  here : (k : K) (ks : List K) → is_in (k ∷ ks) k ≡ true
  here k ks = or_left (eq_by_cmp R k k) (is_in ks k) (ap is_eq (tied_itself o k))

  same : (k x : K) → eq_by_cmp R k x ≡ true → k ≡ x
  same k x e = exact k x ((Equal-is (R k x)).0 e)

  not_less : (k : K) → ¬ (R k k ≡ Less)
  not_less k h = let e : Equal ≡ Less = sym (tied_itself o k) ∙ h in absurd cc

  above : (k x : K) (xs : List K) → AllByRecursion (λ y. R k y ≡ Less) xs → is_in xs x ≡ true → R k x ≡ Less
  above k x [] all h = absurd (true≢false (sym h))
  above k x (y ∷ ys) all h = elim (or_true (eq_by_cmp R x y) (is_in ys x) h) [
    | inl e ↦ subst (λ z. R k z ≡ Less) (sym (same x y e)) all.0
    | inr t ↦ above k x ys all.1 t
  ]

  head_or_later : (k y : K) (ys : List K) → IsStrictlySortedBy R (y ∷ ys) → is_in (y ∷ ys) k ≡ true → (k ≡ y) ⊎ (R y k ≡ Less)
  head_or_later k y ys s h = elim (or_true (eq_by_cmp R k y) (is_in ys k) h) [
    | inl e ↦ inl (same k y e)
    | inr t ↦ inr (above y k ys (sorted_head R y ys s) t)
  ]

  tails : (x y : K) (xs ys : List K) → x ≡ y → IsStrictlySortedBy R (x ∷ xs) → ((k : K) → is_in (x ∷ xs) k ≡ true → is_in (y ∷ ys) k ≡ true) → (k : K) → is_in xs k ≡ true → is_in ys k ≡ true
  tails x y xs ys is s f k h = elim (or_true (eq_by_cmp R k y) (is_in ys k) (f k (or_right (eq_by_cmp R k x) (is_in xs k) h))) [
    | inl e ↦ absurd (not_less x (subst (λ z. R x z ≡ Less) (same k y e ∙ sym is) (above x k xs (sorted_head R x xs s) h)))
    | inr t ↦ t
  ]

  pub same_sorted : (xs ys : List K) → IsStrictlySortedBy R xs → IsStrictlySortedBy R ys → ((k : K) → is_in xs k ≡ true → is_in ys k ≡ true) → ((k : K) → is_in ys k ≡ true → is_in xs k ≡ true) → xs ≡ ys
  same_sorted [] [] s t f g = refl
  same_sorted [] (y ∷ ys) s t f g = absurd (true≢false (sym (g y (here y ys))))
  same_sorted (x ∷ xs) [] s t f g = absurd (true≢false (sym (f x (here x xs))))
  same_sorted (x ∷ xs) (y ∷ ys) s t f g =
      let is : x ≡ y = elim (head_or_later x y ys t (f x (here x xs))) [
        | inl e ↦ e
        | inr less ↦ elim (head_or_later y x xs s (g y (here y ys))) [ inl e ↦ sym e | inr more ↦ absurd (not_less x (o.trans x y x more less)) ]
      ] in
      ap (λ k. k ∷ xs) is ∙ ap (λ ks. y ∷ ks) (same_sorted xs ys (sorted_tail R x xs s) (sorted_tail R y ys t) (tails x y xs ys is s f) (tails y x ys xs (sym is) t g))
