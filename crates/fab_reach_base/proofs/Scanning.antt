-- Searches through sets and maps for one that fails.
use Rattle.std.proofs.Common.{◌≡◌, List, [], ◌∷◌, ◌++◌, Contains, Some, true, inl, inr, sym, ap, ◌∙◌, subst, arith}
use Rattle.std.specs.declared.cmp.Ordering.{Ordering}
use Rattle.std.specs.Cmp.{IsTotalOrder}
use Rattle.std.specs.FinMap as map
use Rattle.std.specs.FinSet as set
use Rattle.std.proofs.lemmas.List.Elements.{Contains-push_cases, Contains-append_left, Contains-push}
use Rattle.fab_mapping.proofs.fab_mapping_base.fab_lemmas.Walks.{walked}
use Rattle.fab_mapping.proofs.fab_mapping_base.fab_lemmas.SeenSets.{listed_decides}
use Rattle.fab_mapping.proofs.fab_mapping_base.fab_lemmas.SeenEntries.{entry_decides}

module _ {K : Type 0} (Q : K → Type 0) where
  -- none so far fails
  abbrev pub AllSoFar : List K → Type 0
  AllSoFar before = (k : K) → Contains before k → Q k

  pub none_yet : AllSoFar []
  none_yet k h = let e : ⊥ = omega (arith, h.1) in absurd e

  pub one_more : (before : List K) (k : K) → AllSoFar before → Q k → AllSoFar (before ++ k ∷ [])
  one_more before k a q y h = elim (Contains-push_cases before k y h) [ inl o ↦ a y o | inr e ↦ subst Q e q ]

-- where the walk stands is one of the list
is_listed : {K : Type 0} (es before it more : List K) (k : K) → es ≡ before ++ it → it ≡ k ∷ more → Contains es k
is_listed es before it more k so_far next = subst (λ ys. Contains ys k) (sym (walked es before it more k so_far next)) (Contains-append_left (before ++ k ∷ []) more k (Contains-push before k))

module _ {K : Type 0} {R : K → K → Ordering} (o : IsTotalOrder R) (exact : set.IsAntisymmetric R) where
  -- where the walk through a set stands is one of the set
  pub is_in_set : (s : set.FinSet R) (ks before it more : List K) (k : K) → set.from_list ks ≡ s → ks ≡ before ++ it → it ≡ k ∷ more → set.contains s k ≡ true
  is_in_set s ks before it more k made so_far next = sym (ap (λ x. set.contains x k) made) ∙ (listed_decides o exact ks k).1 (is_listed ks before it more k so_far next)

  -- none of the set fails
  pub all_in_set : (Q : K → Type 0) (s : set.FinSet R) (ks before : List K) → set.from_list ks ≡ s → before ≡ ks → AllSoFar Q before → (k : K) → set.contains s k ≡ true → Q k
  all_in_set Q s ks before made whole a k there = a k (subst (λ ys. Contains ys k) (sym whole) ((listed_decides o exact ks k).0 (ap (λ x. set.contains x k) made ∙ there)))

  module _ {X : Type 0} where
    -- where the walk through a map stands is one of the map
    pub is_in_map : (m : map.FinMap R X) (es before it more : List (K × X)) (e : K × X) → es ≡ map.entries m → es ≡ before ++ it → it ≡ e ∷ more → map.get m e.0 ≡ Some e.1
    is_in_map m es before it more e made so_far next = (entry_decides R o exact m e.0 e.1).1 (subst (λ ys. Contains ys e) made (is_listed es before it more e so_far next))

    -- none of the map fails
    pub all_in_map : (Q : X → Type 0) (m : map.FinMap R X) (es before : List (K × X)) → es ≡ map.entries m → before ≡ es → AllSoFar (λ e. Q e.1) before → (k : K) (x : X) → map.get m k ≡ Some x → Q x
    all_in_map Q m es before made whole a k x there = a (k, x) (subst (λ ys. Contains ys (k, x)) (sym (whole ∙ made)) ((entry_decides R o exact m k x).0 there))
