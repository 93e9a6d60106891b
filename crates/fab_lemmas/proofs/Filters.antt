-- The keys of the entries that pass a test.
use Rattle.std.proofs.Common.{ℕ, ◌≡◌, ◌<◌, ◌≤◌, List, [], ◌∷◌, ◌++◌, zero, suc, length, get_or, Contains, Bool, true, false, cond, Some, refl, sym, ap, ◌∙◌, subst, arith}
use Rattle.std.specs.declared.cmp.Ordering.{Ordering}
use Rattle.std.specs.declared.cmp.Ordering.TheVariants.{Less}
use Rattle.std.specs.Cmp.{IsTotalOrder, Equal-is, eq_by_cmp_equiv}
use Rattle.std.specs.BTreeMap.{is_at}
use Rattle.std.specs.FinSet as set
use Rattle.std.specs.List.{AllByRecursion}
use Rattle.std.specs.List.Sorted.{IsStrictlySortedBy}
use Rattle.std.specs.Map.{lookup, keys_of}
use Rattle.std.proofs.lemmas.Map.Keys.{IsDistinct-from_sorted}
use Rattle.std.proofs.lemmas.Map.Views.{lookup-from_Contains}
use Rattle.fab_lemmas.specs.Lists.{IsListOf}

abbrev pub keys_where : {K X : Type 0} → (K → X → Bool) → List (K × X) → List K
keys_where test [] = []
keys_where test (e ∷ es) = cond (test e.0 e.1) (e.0 ∷ keys_where test es) (keys_where test es)

-- the same, of a property said otherwise
pub list_as : {X : Type 0} {R : X → X → Ordering} (P Q : X → Type 0) (xs : List X) → ((x : X) → P x → Q x) → ((x : X) → Q x → P x) → IsListOf R P xs → IsListOf R Q xs
list_as P Q xs there back l = record { sorted = l.sorted; sound = λ x h. there x (l.sound x h); complete = λ x q. l.complete x (back x q) }

later : {X : Type 0} (b : Bool) (x : X) (xs : List X) (q : X) → Contains xs q → Contains (cond b (x ∷ xs) xs) q
later true x xs q h = (suc h.0, omega arith, h.2)
later false x xs q h = h

module _ {K X : Type 0} (test : K → X → Bool) where
  step : (c d : Bool) (x y : K) (xs zs : List K) → zs ≡ cond d (xs ++ y ∷ []) xs → cond c (x ∷ zs) zs ≡ cond d (cond c (x ∷ xs) xs ++ y ∷ []) (cond c (x ∷ xs) xs)
  step true true x y xs zs h = ap (λ t. x ∷ t) h
  step true false x y xs zs h = ap (λ t. x ∷ t) h
  step false true x y xs zs h = h
  step false false x y xs zs h = h

  -- one entry more
  pub keys_more : (es : List (K × X)) (e : K × X) → keys_where test (es ++ e ∷ []) ≡ cond (test e.0 e.1) (keys_where test es ++ e.0 ∷ []) (keys_where test es)
  keys_more [] e = refl
  keys_more (d ∷ es) e = step (test d.0 d.1) (test e.0 e.1) d.0 e.0 (keys_where test es) (keys_where test (es ++ e ∷ [])) (keys_more es e)

  -- no more keys than in a longer list
  pub keys_fewer : (es fs : List (K × X)) → length (keys_where test es) ≤ length (keys_where test (es ++ fs))
  keys_fewer [] fs = omega arith
  keys_fewer (e ∷ es) fs = by (test e.0 e.1) (keys_fewer es fs)
    where
      by : (b : Bool) → length (keys_where test es) ≤ length (keys_where test (es ++ fs)) → length (cond b (e.0 ∷ keys_where test es) (keys_where test es)) ≤ length (cond b (e.0 ∷ keys_where test (es ++ fs)) (keys_where test (es ++ fs)))
      by true h = omega arith
      by false h = h

  module _ {R : K → K → Ordering} (o : IsTotalOrder R) (exact : set.IsAntisymmetric R) where
    above : (k : K) (es : List (K × X)) → AllByRecursion (λ y. R k y ≡ Less) (keys_of es) → AllByRecursion (λ y. R k y ≡ Less) (keys_where test es)
    above k [] h = tt
    above k (e ∷ es) h = by (test e.0 e.1) (above k es h.1)
      where
        by : (b : Bool) → AllByRecursion (λ y. R k y ≡ Less) (keys_where test es) → AllByRecursion (λ y. R k y ≡ Less) (cond b (e.0 ∷ keys_where test es) (keys_where test es))
        by true rest = (h.0, rest)
        by false rest = rest

    pub keys_sorted : (es : List (K × X)) → IsStrictlySortedBy R (keys_of es) → IsStrictlySortedBy R (keys_where test es)
    unfolding IsStrictlySortedBy
    keys_sorted [] h = tt
    keys_sorted (e ∷ es) h = by (test e.0 e.1) (keys_sorted es h.1)
      where
        by : (b : Bool) → IsStrictlySortedBy R (keys_where test es) → IsStrictlySortedBy R (cond b (e.0 ∷ keys_where test es) (keys_where test es))
        by true rest = (above e.0 es h.0, rest)
        by false rest = rest

    -- a key whose value passes is among them
    pub key_there : (es : List (K × X)) (q : K) (v : X) → lookup (is_at (R q)) es ≡ Some v → test q v ≡ true → Contains (keys_where test es) q
    key_there [] q v is passes = absurd cc
    key_there (e ∷ es) q v is passes = by (key_there es q v) (is_at (R q) e.0) refl is
      where
        by : (lookup (is_at (R q)) es ≡ Some v → test q v ≡ true → Contains (keys_where test es) q) → (b : Bool) → is_at (R q) e.0 ≡ b → cond b (Some e.1) (lookup (is_at (R q)) es) ≡ Some v → Contains (cond (test e.0 e.1) (e.0 ∷ keys_where test es) (keys_where test es)) q
        by rest true tie i =
            let same : v ≡ e.1 = cc in
            let key : q ≡ e.0 = exact q e.0 ((Equal-is (R q e.0)).0 tie) in
            subst (λ b. Contains (cond b (e.0 ∷ keys_where test es) (keys_where test es)) q) (sym passes ∙ (λ i. test (key i) (same i))) (zero, omega arith, sym key)
        by rest false tie i = later (test e.0 e.1) e.0 (keys_where test es) q (rest i passes)

    abbrev Passing : K → List (K × X) → Type 0
    Passing q es = (v : X) × Contains es (q, v) × (test q v ≡ true)

    only : (es : List (K × X)) (q : K) → Contains (keys_where test es) q → Passing q es
    only [] q c = absurd (omega (arith, c.1))
    only (e ∷ es) q c = by (only es q) (test e.0 e.1) refl c
      where
        tail : Passing q es → Passing q (e ∷ es)
        tail r = (r.0, (suc r.1.0, omega (arith, r.1.1), r.1.2), r.2)

        at : (Contains (keys_where test es) q → Passing q es) → test e.0 e.1 ≡ true → (i : ℕ) → i < suc (length (keys_where test es)) → get_or (e.0 ∷ keys_where test es) i q ≡ q → Passing q (e ∷ es)
        at rest passes zero less is = (e.1, (zero, omega arith, λ i. (is i, e.1)), ap (λ k. test k e.1) (sym is) ∙ passes)
        at rest passes (suc i) less is = tail (rest (i, omega arith, is))

        by : (Contains (keys_where test es) q → Passing q es) → (b : Bool) → test e.0 e.1 ≡ b → Contains (cond b (e.0 ∷ keys_where test es) (keys_where test es)) q → Passing q (e ∷ es)
        by rest true passes c = at rest passes c.0 c.1 c.2
        by rest false passes c = tail (rest c)

    -- they are all such keys, in order
    pub keys_listed : (es : List (K × X)) → IsStrictlySortedBy R (keys_of es) → IsListOf R (λ q. (v : X) × (lookup (is_at (R q)) es ≡ Some v) × (test q v ≡ true)) (keys_where test es)
    keys_listed es sorted = record {
      sorted = keys_sorted es sorted;
      sound = λ q c. let p = only es q c in (p.0, lookup-from_Contains (eq_by_cmp_equiv o) q p.0 es (IsDistinct-from_sorted R (keys_of es) sorted) p.1, p.2);
      complete = λ q w. key_there es q w.0 w.1 w.2;
    }
