-- A test of each key of a list of entries: by the keys, and by look-ups.
use Rattle.std.proofs.Common.{◌≡◌, List, [], ◌∷◌, Some, Bool, true, false, cond, ◌||◌, refl, sym}
use mathlib.Core.Bool.{true≢false}
use Rattle.std.specs.declared.cmp.Ordering.{Ordering}
use Rattle.std.specs.BTreeMap.{is_at}
use Rattle.std.specs.Cmp.{IsTotalOrder, eq_by_cmp_equiv}
use Rattle.std.specs.FinSet as set
use Rattle.std.specs.List.{list_all, list_any}
use Rattle.std.specs.Map.{lookup, keys_of}
use Rattle.std.specs.Ordering.{eq_by_cmp}
use Rattle.std.proofs.lemmas.List.Elements.{All-contains}
use Rattle.std.proofs.lemmas.List.Sums.{AllPass-from_list_all, list_all-from_AllPass}
use Rattle.std.proofs.lemmas.Map.Views.{All-from_any, Contains-from_any, tells_apart}

module _ {K X : Type 0} {R : K → K → Ordering} (o : IsTotalOrder R) (exact : set.IsAntisymmetric R) (test : K → Bool) where
  pub any_found : (es : List (K × X)) (q : K) → list_any (eq_by_cmp R q) (keys_of es) ≡ true → (x : X) × (lookup (is_at (R q)) es ≡ Some x)
  any_found [] q there = absurd (true≢false (sym there))
  any_found (e ∷ es) q there = by (is_at (R q) e.0) (any_found es q) there
    where
      by : (b : Bool) → (list_any (eq_by_cmp R q) (keys_of es) ≡ true → (x : X) × (lookup (is_at (R q)) es ≡ Some x)) → (b || list_any (eq_by_cmp R q) (keys_of es)) ≡ true → (x : X) × (cond b (Some e.1) (lookup (is_at (R q)) es) ≡ Some x)
      by true later h = (e.1, refl)
      by false later h = later h

  found_any : (es : List (K × X)) (q : K) (x : X) → lookup (is_at (R q)) es ≡ Some x → list_any (eq_by_cmp R q) (keys_of es) ≡ true
  found_any [] q x is = absurd cc
  found_any (e ∷ es) q x is = by (is_at (R q) e.0) (found_any es q x) is
    where
      by : (b : Bool) → (lookup (is_at (R q)) es ≡ Some x → list_any (eq_by_cmp R q) (keys_of es) ≡ true) → cond b (Some e.1) (lookup (is_at (R q)) es) ≡ Some x → (b || list_any (eq_by_cmp R q) (keys_of es)) ≡ true
      by true later h = refl
      by false later h = later h

  -- what each key passes, a key that is found passes
  pub key_passes : (es : List (K × X)) → list_all test (keys_of es) ≡ true → (q : K) (x : X) → lookup (is_at (R q)) es ≡ Some x → test q ≡ true
  key_passes es all q x is = All-contains (λ y. test y ≡ true) (keys_of es) q (AllPass-from_list_all test (keys_of es) all) (Contains-from_any (tells_apart exact) q (keys_of es) (found_any es q x is))

  pub each_key_passes : (es : List (K × X)) → ((q : K) (x : X) → lookup (is_at (R q)) es ≡ Some x → test q ≡ true) → list_all test (keys_of es) ≡ true
  each_key_passes es h = list_all-from_AllPass test (keys_of es) (All-from_any (eq_by_cmp_equiv o) (λ y. test y ≡ true) (keys_of es) (λ q there. let x = any_found es q there in h q x.0 x.1))
