-- Where there is no first user, there is no user at all.
use Rattle.std.proofs.Common.{ℕ, zero, suc, ◌≡◌, ◌<◌, ◌⊎◌, List, [], ◌∷◌, length, get_or, Contains, Option, None, Some, is_some, sym, ap, ◌∙◌, inl, inr, arith}
use Rattle.std.specs.declared.cmp.Ordering.{Ordering}
use Rattle.std.specs.Cmp.{IsTotalOrder, Equal-is, tied_itself}
use Rattle.std.specs.FinMap as map
use Rattle.std.specs.Ordering.{is_gt}
use Rattle.std.proofs.lemmas.Map.Views.{Contains-from_any}
use Rattle.fab_reach_base.specs.fab_lemmas.Firsts.{IsFirstOf, IsFirstWith, HasAt, lesser}
use Rattle.fab_reach_base.proofs.fab_lemmas.Leasts.{least_as, least_both}
use Rattle.fab_reach_base.specs.fab_names.Orders.{name_cmp}
use Rattle.fab_reach_base.proofs.fab_names.OrderLaws.{name_total, name_exact}

-- ---- the least number

-- ---- the first name

module _ {K : Type 0} {R : K → K → Ordering} (total : IsTotalOrder R) (P : K → Type 0) where
  -- either x is the first of x alone, or none is
  first_of_one : (x : K) → ¬ ((o : Option K) → ¬ IsFirstOf R (λ y. (y ≡ x) × P y) o)
  first_of_one x none = none None (λ y h. none (Some y) (h, λ z g. ap (λ w. is_gt (R y w)) (g.0 ∙ sym h.0) ∙ ap is_gt (tied_itself total y)))

  -- of the items of a list that have P there is a first, or none has P
  first_of_all : (xs : List K) → ¬ ((o : Option K) → ¬ IsFirstOf R (λ y. Contains xs y × P y) o)
  first_of_all [] none = none None (λ y h. omega (arith, h.0.1))
  first_of_all (x ∷ xs) none = first_of_one x (λ a one. first_of_all xs (λ b rest.
      none (lesser R a b) (least_as R (λ y. ((y ≡ x) × P y) ⊎ (Contains xs y × P y)) (λ y. Contains (x ∷ xs) y × P y) (lesser R a b)
      (λ y e. elim e [ inl h ↦ ((0, omega arith, sym h.0), h.1) | inr h ↦ ((suc h.0.0, omega (arith, h.0.1), h.0.2), h.1) ])
      (λ y h. split y h.0.0 h.0.1 h.0.2 h.1)
      (least_both total (λ y. (y ≡ x) × P y) (λ y. Contains xs y × P y) a b one rest))))
    where
      split : (y : K) (k : ℕ) → k < length (x ∷ xs) → get_or (x ∷ xs) k y ≡ y → P y → ((y ≡ x) × P y) ⊎ (Contains xs y × P y)
      split y zero lt is has = inl (sym is, has)
      split y (suc k) lt is has = inr ((k, omega (arith, lt), is), has)

module _ {X : Type 0} (m : map.FinMap name_cmp X) (P : X → Type 0) where
  -- a name at which there is a value is a key
  is_key : (n : List ℕ) → HasAt (map.get m) P n → Contains (map.keys m) n
  is_key n h =
      Contains-from_any (λ x y same. name_exact x y ((Equal-is (name_cmp x y)).0 same)) n (map.keys m) (sym (map.contains_key-keys m n) ∙ ap is_some h.1)

  -- where no name is the first at which a value has P, none has it
  pub no_first : ((n : List ℕ) → ¬ IsFirstWith name_cmp (HasAt (map.get m) P) n) → (n : List ℕ) → ¬ HasAt (map.get m) P n
  no_first none n h = first_of_all name_total (HasAt (map.get m) P) (map.keys m) by
    where
      by : (o : Option (List ℕ)) → ¬ IsFirstOf name_cmp (λ y. Contains (map.keys m) y × HasAt (map.get m) P y) o
      by None first = first n (is_key n h, h)
      by (Some f) first = none f (first.0.1, λ q g. first.1 q (is_key q g, g))
