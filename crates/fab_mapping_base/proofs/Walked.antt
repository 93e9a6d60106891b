-- Walks through the entries of a map for the first key that has a property.
use Rattle.std.proofs.Common.{◌≡◌, List, [], ◌∷◌, ◌++◌, Bool, Option, Some, is_some, cond, true, false, ◌||◌, Contains, inl, inr, refl, sym, ap, ◌∙◌, subst}
use mathlib.Core.Bool.{true≢false}
use Rattle.std.specs.declared.cmp.Ordering.{Ordering}
use Rattle.std.specs.declared.cmp.Ordering.TheVariants.{Less}
use Rattle.std.specs.Ordering.{eq_by_cmp, is_gt}
use Rattle.std.specs.Cmp.{IsTotalOrder, Equal-is, tied_itself}
use Rattle.std.specs.FinMap as map
use Rattle.std.specs.FinSet as set
use Rattle.std.specs.List.{AllByRecursion, list_any}
use Rattle.std.specs.List.Sorted.{IsStrictlySortedBy}
use Rattle.std.specs.Map.{lookup, keys_of}
use Rattle.std.proofs.lemmas.Map.Keys.{sorted_head, sorted_tail}
use Rattle.fab_inventory.proofs.fab_lemmas.Tests.{or_true}
use Rattle.std.proofs.lemmas.List.Elements.{Contains-append_left, Contains-append_right, Contains-push}
use Rattle.fab_inventory.proofs.fab_lemmas.SeenEntries.{entry_decides}
use Rattle.fab_inventory.proofs.fab_lemmas.Walks.{all_found, first_hit}

some_or : {X : Type 0} (b : Bool) (v : X) (o : Option X) → is_some (cond b (Some v) o) ≡ (b || is_some o)
some_or true v o = refl
some_or false v o = refl

module _ {K X : Type 0} (R : K → K → Ordering) where
  -- a key that a look-up finds is one of the keys
  keys_found : (es : List (K × X)) (q : K) → is_some (map.find R q es) ≡ list_any (eq_by_cmp R q) (keys_of es)
  keys_found [] q = refl
  keys_found (e ∷ es) q = some_or (eq_by_cmp R q e.0) e.1 (map.find R q es) ∙ ap (λ c. eq_by_cmp R q e.0 || c) (keys_found es q)

  pub key_there : (m : map.FinMap R X) (q : K) (v : X) → map.get m q ≡ Some v → list_any (eq_by_cmp R q) (keys_of (map.entries m)) ≡ true
  key_there m q v at = sym (keys_found (map.entries m) q) ∙ ap is_some (sym (map.get-entries m q) ∙ at)

  -- the same of a tree
  pub key_looked_up : (es : List (K × X)) (q : K) (v : X) → lookup (eq_by_cmp R q) es ≡ Some v → list_any (eq_by_cmp R q) (keys_of es) ≡ true
  key_looked_up [] q v at = absurd cc
  key_looked_up (e ∷ es) q v at =
      elim (eq_by_cmp R q e.0) as (λ b. cond b (Some e.1) (lookup (eq_by_cmp R q) es) ≡ Some v → (b || list_any (eq_by_cmp R q) (keys_of es)) ≡ true) [
        | true ↦ λ i. refl
        | false ↦ λ i. key_looked_up es q v i
      ] at

any_all : {Y : Type 0} (es : List Y) → AllByRecursion (λ e. ¬ ⊥) es
any_all [] = tt
any_all (e ∷ es) = ((λ h. h), any_all es)

module _ {K : Type 0} {R : K → K → Ordering} (o : IsTotalOrder R) where
  -- the entry of a step is what a look-up in the tree finds
  pub here_looked_up : {X : Type 0} (es before it more : List (K × X)) (e : K × X) → es ≡ before ++ it → it ≡ e ∷ more → IsStrictlySortedBy R (keys_of es) → lookup (eq_by_cmp R e.0) es ≡ Some e.1
  here_looked_up {X} es before it more e so_far next sorted = (first_hit o (λ (_ : X). ⊥) es before it more e so_far next sorted (any_all before)).0

  module _ (exact : set.IsAntisymmetric R) where
    same_key : (x y : K) → eq_by_cmp R x y ≡ true → x ≡ y
    same_key x y e = exact x y ((Equal-is (R x y)).0 e)

    -- the entry of a step is what a look-up in the map finds
    pub entry_here : {X : Type 0} (m : map.FinMap R X) (before more : List (K × X)) (k : K) (v : X) → map.entries m ≡ before ++ (k, v) ∷ more → map.get m k ≡ Some v
    entry_here {X} m before more k v is =
        (entry_decides R o exact m k v).1 (subst (λ (es : List (K × X)). Contains es (k, v)) (sym is) (Contains-append_right before ((k, v) ∷ more) (k, v) (Contains-append_left ((k, v) ∷ []) more (k, v) (Contains-push [] (k, v)))))

    -- no key is among those that have not P
    pub none_has : {X : Type 0} (P : K → Type 0) (es : List (K × X)) → AllByRecursion (λ e. ¬ P e.0) es → (q : K) → list_any (eq_by_cmp R q) (keys_of es) ≡ true → ¬ P q
    none_has P [] all q there p = true≢false (sym there)
    none_has P (e ∷ es) all q there p = elim (or_true (eq_by_cmp R q e.0) (list_any (eq_by_cmp R q) (keys_of es)) there) [
      | inl is ↦ all.0 (subst P (same_key q e.0 is) p)
      | inr later ↦ none_has P es all.1 q later p
    ]

    -- the first key that has P is the least
    pub least_has : {X : Type 0} (P : K → Type 0) (before : List (K × X)) (e : K × X) (more : List (K × X)) → IsStrictlySortedBy R (keys_of (before ++ e ∷ more)) → AllByRecursion (λ r. ¬ P r.0) before
        → (q : K) → list_any (eq_by_cmp R q) (keys_of (before ++ e ∷ more)) ≡ true → P q → is_gt (R e.0 q) ≡ false
    least_has P [] e more sorted none q there p = elim (or_true (eq_by_cmp R q e.0) (list_any (eq_by_cmp R q) (keys_of more)) there) [
      | inl is ↦ ap (λ x. is_gt (R e.0 x)) (same_key q e.0 is) ∙ ap is_gt (tied_itself o e.0)
      | inr later ↦ ap is_gt (all_found o exact (λ x. R e.0 x ≡ Less) (keys_of more) q (sorted_head R e.0 (keys_of more) sorted) later)
    ]
    least_has P (b ∷ before) e more sorted none q there p = elim (or_true (eq_by_cmp R q b.0) (list_any (eq_by_cmp R q) (keys_of (before ++ e ∷ more))) there) [
      | inl is ↦ absurd (none.0 (subst P (same_key q b.0 is) p))
      | inr later ↦ least_has P before e more (sorted_tail R b.0 (keys_of (before ++ e ∷ more)) sorted) none.1 q later p
    ]
