-- Walks through keys and entries in their order, and searches in them.
use Rattle.std.proofs.Common.{◌≡◌, Bool, true, false, ◌||◌, inl, inr, cond, List, [], ◌∷◌, ◌++◌, None, Some, sym, ap, ◌∙◌, subst, refl, append_assoc}
use mathlib.Core.Bool.{true≢false}
use Rattle.std.specs.List.{AllByRecursion, list_any}
use Rattle.std.specs.List.Sorted.{IsStrictlySortedBy}
use Rattle.std.specs.Ordering.{is_eq, is_gt, eq_by_cmp, ordering_reverse}
use Rattle.std.specs.declared.cmp.Ordering.{Ordering}
use Rattle.std.specs.declared.cmp.Ordering.TheVariants.{Less, Equal, Greater}
use Rattle.std.specs.Cmp.{IsTotalOrder, Equal-is, eq_by_cmp_equiv, tied_itself}
use Rattle.std.specs.BTreeMap.{is_at}
use Rattle.std.specs.Map.{lookup, keys_of}
use Rattle.std.specs.FinSet as set
use Rattle.std.proofs.lemmas.Map.{lookup-none}
use Rattle.std.proofs.lemmas.Map.Entries.{none_below_head, lookup_head, lookup_tail}
use Rattle.std.proofs.lemmas.Map.Keys.{sorted_head, sorted_tail}
use Rattle.fab_lemmas.specs.Firsts.{IsFirstWith, HasAt, HasNowhere}
use Rattle.fab_lemmas.proofs.Tests.{or_true, or_right}

-- one more item has what the items before it have
pub all_push : {X : Type 0} (P : X → Type 0) (xs : List X) (y : X) → AllByRecursion P xs → P y → AllByRecursion P (xs ++ y ∷ [])
all_push P [] y h p = (p, tt)
all_push P (x ∷ xs) y h p = (h.0, all_push P xs y h.1 p)

append_nil : {X : Type 0} (xs : List X) → xs ++ [] ≡ xs
append_nil [] = refl
append_nil (x ∷ xs) = ap (λ t. x ∷ t) (append_nil xs)

-- a step and the end of a walk
pub walked : {X : Type 0} (es before it more : List X) (e : X) → es ≡ before ++ it → it ≡ e ∷ more → es ≡ (before ++ e ∷ []) ++ more
walked es before it more e so_far next = so_far ∙ ap (λ x. before ++ x) next ∙ sym (append_assoc before (e ∷ []) more)

pub walk_end : {X : Type 0} (es before it : List X) → es ≡ before ++ it → it ≡ [] → before ≡ es
walk_end es before it so_far none = sym (so_far ∙ ap (λ x. before ++ x) none ∙ append_nil before)

module _ {K X : Type 0} {R : K → K → Ordering} (o : IsTotalOrder R) where
  -- what a look-up finds has what all have
  pub found : (P : X → Type 0) (test : K → Bool) (es : List (K × X)) (v : X) → AllByRecursion (λ e. P e.1) es → lookup test es ≡ Some v → P v
  found P test [] v h e = absurd cc
  found P test (x ∷ es) v h e =
      elim (test x.0) as (λ b. cond b (Some x.1) (lookup test es) ≡ Some v → P v) [
        | true ↦ λ i. let same : x.1 ≡ v = cc in subst P same h.0
        | false ↦ λ i. found P test es v h.1 i
      ] e

  middle : (P : K → Type 0) (before : List (K × X)) (e : K × X) (rest : List (K × X)) → AllByRecursion P (keys_of (before ++ e ∷ rest)) → P e.0
  middle P [] e rest h = h.0
  middle P (b ∷ before) e rest h = middle P before e rest h.1

  lookup_here : (before : List (K × X)) (e : K × X) (rest : List (K × X)) → IsStrictlySortedBy R (keys_of (before ++ e ∷ rest)) → lookup (is_at (R e.0)) (before ++ e ∷ rest) ≡ Some e.1
  lookup_here [] e rest h = lookup_head (is_at (R e.0)) e rest (ap is_eq (tied_itself o e.0))
  lookup_here (b ∷ before) e rest h =
      let less : R b.0 e.0 ≡ Less = middle (λ y. R b.0 y ≡ Less) before e rest (sorted_head R b.0 (keys_of (before ++ e ∷ rest)) h) in
      lookup_tail (is_at (R e.0)) b (before ++ e ∷ rest) ((eq_by_cmp_equiv o).symm e.0 b.0 ∙ ap is_eq less)
      ∙ lookup_here before e rest (sorted_tail R b.0 (keys_of (before ++ e ∷ rest)) h)

  found_below : (P : X → Type 0) (before : List (K × X)) (e : K × X) (rest : List (K × X)) (y : K) (v : X) → IsStrictlySortedBy R (keys_of (before ++ e ∷ rest)) → R y e.0 ≡ Less
      → AllByRecursion (λ r. P r.1) before → lookup (is_at (R y)) (before ++ e ∷ rest) ≡ Some v → P v
  found_below P [] e rest y v sorted less all is =
      let none : lookup (is_at (R y)) (e ∷ rest) ≡ None = lookup-none (is_at (R y)) (e ∷ rest) (none_below_head o y e rest sorted less) in absurd cc
  found_below P (b ∷ before) e rest y v sorted less all is =
      elim (is_at (R y) b.0) as (λ t. cond t (Some b.1) (lookup (is_at (R y)) (before ++ e ∷ rest)) ≡ Some v → P v) [
        | true ↦ λ i. let same : b.1 ≡ v = cc in subst P same all.0
        | false ↦ λ i. found_below P before e rest y v (sorted_tail R b.0 (keys_of (before ++ e ∷ rest)) sorted) less all.1 i
      ] is

  not_below : (P : X → Type 0) (before : List (K × X)) (e : K × X) (rest : List (K × X)) (y : K) (v : X) → IsStrictlySortedBy R (keys_of (before ++ e ∷ rest))
      → AllByRecursion (λ r. ¬ P r.1) before → lookup (is_at (R y)) (before ++ e ∷ rest) ≡ Some v → P v → (r : Ordering) → R e.0 y ≡ r → is_gt (R e.0 y) ≡ false
  not_below P before e rest y v sorted all is p Less at = ap is_gt at
  not_below P before e rest y v sorted all is p Equal at = ap is_gt at
  not_below P before e rest y v sorted all is p Greater at = absurd (found_below (λ w. ¬ P w) before e rest y v sorted (o.antisymm y e.0 ∙ ap ordering_reverse at) all is p)

  -- the entry e is the first that has P
  pub first_hit : (P : X → Type 0) (es before it more : List (K × X)) (e : K × X) → es ≡ before ++ it → it ≡ e ∷ more → IsStrictlySortedBy R (keys_of es) → AllByRecursion (λ r. ¬ P r.1) before
      → (lookup (is_at (R e.0)) es ≡ Some e.1) × ((y : K) (v : X) → lookup (is_at (R y)) es ≡ Some v → P v → is_gt (R e.0 y) ≡ false)
  first_hit P es before it more e so_far next sorted all =
      let is : es ≡ before ++ e ∷ more = so_far ∙ ap (λ x. before ++ x) next in
      let inner : IsStrictlySortedBy R (keys_of (before ++ e ∷ more)) = subst (λ x. IsStrictlySortedBy R (keys_of x)) is sorted in (
        ap (lookup (is_at (R e.0))) is ∙ lookup_here before e more inner,
        λ y v at p. not_below P before e more y v inner all (ap (lookup (is_at (R y))) (sym is) ∙ at) p (R e.0 y) refl,
      )

  -- where none has P, no look-up finds one that has
  pub no_hit : (P : X → Type 0) (es before : List (K × X)) (y : K) (v : X) → before ≡ es → AllByRecursion (λ r. ¬ P r.1) before → lookup (is_at (R y)) es ≡ Some v → ¬ P v
  no_hit P es before y v is all at = found (λ w. ¬ P w) (is_at (R y)) before v all (ap (lookup (is_at (R y))) is ∙ at)

  -- the same, of the first key whose value has P
  pub first_at : (P : X → Type 0) (es before it more : List (K × X)) (e : K × X) → es ≡ before ++ it → it ≡ e ∷ more → IsStrictlySortedBy R (keys_of es) → AllByRecursion (λ r. ¬ P r.1) before → P e.1
      → IsFirstWith R (HasAt (λ q. lookup (is_at (R q)) es) P) e.0
  first_at P es before it more e so_far next sorted all here =
      let hit = first_hit P es before it more e so_far next sorted all in ((e.1, hit.0, here), λ q w. hit.1 q w.0 w.1 w.2)

  -- and of none
  pub nowhere : (P : X → Type 0) (es before : List (K × X)) → before ≡ es → AllByRecursion (λ r. ¬ P r.1) before → HasNowhere (λ q. lookup (is_at (R q)) es) P
  nowhere P es before is all q w = no_hit P es before q w.0 is all w.1 w.2

module _ {K : Type 0} {R : K → K → Ordering} (o : IsTotalOrder R) (exact : set.IsAntisymmetric R) where
  same_key : (x y : K) → eq_by_cmp R x y ≡ true → x ≡ y
  same_key x y e = exact x y ((Equal-is (R x y)).0 e)

  -- what each key has, a key that is found has
  pub all_found : (P : K → Type 0) (ks : List K) (y : K) → AllByRecursion P ks → list_any (eq_by_cmp R y) ks ≡ true → P y
  all_found P [] y h e = absurd (true≢false (sym e))
  all_found P (k ∷ ks) y h e = elim (or_true (eq_by_cmp R y k) (list_any (eq_by_cmp R y) ks) e) [
    | inl is ↦ subst P (sym (same_key y k is)) h.0
    | inr more ↦ all_found P ks y h.1 more
  ]

  -- no key that passes a test is below the first that passes it
  least_key : (t : K → Bool) (before : List K) (k : K) (more : List K) → IsStrictlySortedBy R (before ++ k ∷ more) → AllByRecursion (λ y. t y ≡ false) before
      → (y : K) → list_any (eq_by_cmp R y) (before ++ k ∷ more) ≡ true → t y ≡ true → is_gt (R k y) ≡ false
  least_key t [] k more sorted none y there passes = elim (or_true (eq_by_cmp R y k) (list_any (eq_by_cmp R y) more) there) [
    | inl is ↦ ap (λ x. is_gt (R k x)) (same_key y k is) ∙ ap is_gt (tied_itself o k)
    | inr later ↦ ap is_gt (all_found (λ x. R k x ≡ Less) more y (sorted_head R k more sorted) later)
  ]
  least_key t (b ∷ before) k more sorted none y there passes = elim (or_true (eq_by_cmp R y b) (list_any (eq_by_cmp R y) (before ++ k ∷ more)) there) [
    | inl is ↦ absurd (true≢false (sym passes ∙ ap t (same_key y b is) ∙ none.0))
    | inr later ↦ least_key t before k more (sorted_tail R b (before ++ k ∷ more) sorted) none.1 y later passes
  ]

  pub first_key : (t : K → Bool) (ks before it more : List K) (k : K) → ks ≡ before ++ it → it ≡ k ∷ more → IsStrictlySortedBy R ks → AllByRecursion (λ y. t y ≡ false) before
      → (y : K) → list_any (eq_by_cmp R y) ks ≡ true → t y ≡ true → is_gt (R k y) ≡ false
  first_key t ks before it more k so_far next sorted none y there passes =
      let is : ks ≡ before ++ k ∷ more = so_far ∙ ap (λ x. before ++ x) next in
      least_key t before k more (subst (IsStrictlySortedBy R) is sorted) none y (sym (ap (list_any (eq_by_cmp R y)) is) ∙ there) passes

  -- the key of a step is there
  pub key_there : (ks before it more : List K) (k : K) → ks ≡ before ++ it → it ≡ k ∷ more → list_any (eq_by_cmp R k) ks ≡ true
  key_there ks before it more k so_far next =
      ap (list_any (eq_by_cmp R k)) (so_far ∙ ap (λ x. before ++ x) next)
      ∙ among before
    where
      among : (xs : List K) → list_any (eq_by_cmp R k) (xs ++ k ∷ more) ≡ true
      among [] = ap (λ r. is_eq r || list_any (eq_by_cmp R k) more) (tied_itself o k)
      among (x ∷ xs) = or_right (eq_by_cmp R k x) (list_any (eq_by_cmp R k) (xs ++ k ∷ more)) (among xs)
