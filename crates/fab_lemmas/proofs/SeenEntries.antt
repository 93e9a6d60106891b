-- The entries of a finite map are its look-ups.
use Rattle.std.proofs.Common.{◌≡◌, List, [], ◌∷◌, Bool, true, false, ◌&&◌, cond, Contains, Some, refl, sym, ap, ◌∙◌}
use lib.Dec.{T}
use Rattle.std.specs.declared.cmp.Ordering.{Ordering}
use Rattle.std.specs.declared.cmp.Ordering.TheVariants.{Less, Equal, Greater}
use Rattle.std.specs.Ordering.{eq_by_cmp, is_lt}
use Rattle.std.specs.Cmp.{IsTotalOrder, eq_by_cmp_equiv, Equal-is}
use Rattle.std.specs.FinMap as fin
use Rattle.std.specs.FinMap.Entries.{below_all}
use Rattle.std.specs.FinSet as set
use Rattle.std.specs.List.{AllByRecursion}
use Rattle.std.specs.List.Sorted.{IsStrictlySortedBy}
use Rattle.std.specs.Map.{lookup, keys_of}
use Rattle.std.proofs.lemmas.Map.Keys.{IsDistinct-from_sorted}
use Rattle.std.proofs.lemmas.Map.Views.{Contains-from_lookup, lookup-from_Contains}

-- a comparison that passes the test
is_less : (r : Ordering) → T (is_lt r) → r ≡ Less
is_less Less h = refl
is_less Equal h = absurd h
is_less Greater h = absurd h

-- the first of two tests that pass
first_true : (a b : Bool) → T (a && b) → T a
first_true true b h = tt
first_true false b h = h

-- the second of two tests that pass
second_true : (a b : Bool) → T (a && b) → T b
second_true true b h = h
second_true false b h = absurd h

module _ {K X : Type 0} (R : K → K → Ordering) where
  -- keys above this one
  above : (x : K) (es : List (K × X)) → T (below_all R x es) → AllByRecursion (λ y. R x y ≡ Less) (keys_of es)
  above x [] h = tt
  above x (e ∷ es) h = (is_less (R x e.0) (first_true _ _ h), above x es (second_true _ _ h))

  -- entries of a finite map have rising keys
  pub sorted : (es : List (K × X)) → T (fin.is_sorted R es) → IsStrictlySortedBy R (keys_of es)
  unfolding IsStrictlySortedBy
  sorted [] h = tt
  sorted (e ∷ es) h = (above e.0 es (first_true _ _ h), sorted es (second_true _ _ h))

  -- a search is a look-up
  found : (es : List (K × X)) (q : K) → fin.find R q es ≡ lookup (eq_by_cmp R q) es
  found [] q = refl
  found (e ∷ es) q = ap (cond (eq_by_cmp R q e.0) (Some e.1)) (found es q)

  -- a key has the value exactly where the pair is an entry
  pub entry_decides : IsTotalOrder R → set.IsAntisymmetric R → (m : fin.FinMap R X) (q : K) (v : X) → (fin.get m q ≡ Some v → Contains (fin.entries m) (q, v)) × (Contains (fin.entries m) (q, v) → fin.get m q ≡ Some v)
  entry_decides o exact m q v =
      let is : fin.get m q ≡ lookup (eq_by_cmp R q) (fin.entries m) = fin.get-entries m q ∙ found (fin.entries m) q in (
        λ h. Contains-from_lookup {eq = eq_by_cmp R} (λ x y e. exact x y ((Equal-is (R x y)).0 e)) q v (fin.entries m) (sym is ∙ h),
        λ h. is ∙ lookup-from_Contains (eq_by_cmp_equiv o) q v (fin.entries m) (IsDistinct-from_sorted R (keys_of (fin.entries m)) (sorted (fin.entries m) (fin.entries_sorted m))) h,
      )
