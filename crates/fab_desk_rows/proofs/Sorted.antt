-- Sorted lists that are made of others.
use Rattle.std.proofs.Common.{◌≡◌, List, [], ◌∷◌, ◌++◌, map, Contains, inl, inr, refl, ap, subst, arith}
use Rattle.std.specs.declared.cmp.Ordering.{Ordering}
use Rattle.std.specs.declared.cmp.Ordering.TheVariants.{Less}
use Rattle.std.specs.List.{AllByRecursion}
use Rattle.std.specs.List.Sorted.{IsStrictlySortedBy}
use Rattle.std.proofs.lemmas.List.Elements.{Contains-append_cases}
use Rattle.fab_store_world.proofs.Picked.{first_or_later, later}

-- what each item has
pub all_have : {X : Type 0} (P : X → Type 0) (xs : List X) → ((x : X) → Contains xs x → P x) → AllByRecursion P xs
all_have P [] each = tt
all_have P (x ∷ xs) each = (each x (0, omega arith, refl), all_have P xs (λ y h. each y (later x y xs h)))

pub each_has : {X : Type 0} (P : X → Type 0) (xs : List X) → AllByRecursion P xs → (x : X) → Contains xs x → P x
each_has P [] all x h = absurd (omega (arith, h.1))
each_has P (y ∷ xs) all x h = elim (first_or_later y x xs h) [ inl is ↦ subst P is all.0 | inr more ↦ each_has P xs all.1 x more ]

-- an order in place of another, of items with Q
pub sorted_as : {X : Type 0} (O T : X → X → Ordering) (Q : X → Type 0) → ((x y : X) → Q x → Q y → O x y ≡ Less → T x y ≡ Less) → (xs : List X) → ((x : X) → Contains xs x → Q x) → IsStrictlySortedBy O xs → IsStrictlySortedBy T xs
unfolding IsStrictlySortedBy
sorted_as O T Q up [] have s = tt
sorted_as O T Q up (x ∷ xs) have s = (
  all_have (λ y. T x y ≡ Less) xs (λ y h. up x y (have x (0, omega arith, refl)) (have y (later x y xs h)) (each_has (λ z. O x z ≡ Less) xs s.0 y h)),
  sorted_as O T Q up xs (λ y h. have y (later x y xs h)) s.1,
)

-- items of which something is made that keeps their order
module _ {K R : Type 0} (f : K → R) where
  pub from_mapped : (ks : List K) (r : R) → Contains (map f ks) r → (k : K) × Contains ks k × (f k ≡ r)
  from_mapped [] r h = absurd (omega (arith, h.1))
  from_mapped (k ∷ ks) r h = elim (first_or_later (f k) r (map f ks) h) [
    | inl is ↦ (k, (0, omega arith, refl), is)
    | inr more ↦ let w = from_mapped ks r more in (w.0, later k w.0 ks w.1, w.2)
  ]

  pub to_mapped : (ks : List K) (k : K) → Contains ks k → Contains (map f ks) (f k)
  to_mapped [] k h = absurd (omega (arith, h.1))
  to_mapped (x ∷ xs) k h = elim (first_or_later x k xs h) [
    | inl is ↦ (0, omega arith, ap f is)
    | inr there ↦ later (f x) (f k) (map f xs) (to_mapped xs k there)
  ]

  pub mapped_sorted : (C : K → K → Ordering) (O : R → R → Ordering) → ((a b : K) → C a b ≡ Less → O (f a) (f b) ≡ Less) → (ks : List K) → IsStrictlySortedBy C ks → IsStrictlySortedBy O (map f ks)
  unfolding IsStrictlySortedBy
  mapped_sorted C O up [] s = tt
  mapped_sorted C O up (k ∷ ks) s = (
    all_have (λ r. O (f k) r ≡ Less) (map f ks) (λ r h. let w = from_mapped ks r h in subst (λ x. O (f k) x ≡ Less) w.2 (up k w.0 (each_has (λ y. C k y ≡ Less) ks s.0 w.0 w.1))),
    mapped_sorted C O up ks s.1,
  )

-- one list behind another
pub both_sorted : {X : Type 0} (O : X → X → Ordering) (xs ys : List X) → IsStrictlySortedBy O xs → IsStrictlySortedBy O ys → ((x y : X) → Contains xs x → Contains ys y → O x y ≡ Less) → IsStrictlySortedBy O (xs ++ ys)
unfolding IsStrictlySortedBy
both_sorted O [] ys s t below = t
both_sorted O (x ∷ xs) ys s t below = (
  all_have (λ z. O x z ≡ Less) (xs ++ ys) (λ z h. elim (Contains-append_cases xs ys z h) [
    | inl here ↦ each_has (λ z. O x z ≡ Less) xs s.0 z here
    | inr more ↦ below x z (0, omega arith, refl) more
  ]),
  both_sorted O xs ys s.1 t (λ y z h k. below y z (later x y xs h) k),
)
