-- Lists of the rows of entries, which are ordered as the keys of their entries are.
use Rattle.std.proofs.Common.{◌≡◌, suc, List, [], ◌∷◌, ◌++◌, Contains, ◌⊎◌, inl, inr, Option, None, Some, sym, ap, ◌∙◌, subst, arith}
use Rattle.std.specs.declared.cmp.Ordering.{Ordering}
use Rattle.std.specs.declared.cmp.Ordering.TheVariants.{Less}
use Rattle.std.specs.List.{AllByRecursion}
use Rattle.std.specs.List.Sorted.{IsStrictlySortedBy}
use Rattle.std.specs.Map.{keys_of}
use Rattle.std.proofs.lemmas.List.Elements.{Contains-append_cases, Contains-push_cases, Contains-append_left, Contains-push}
use Rattle.std.proofs.lemmas.Map.Keys.{sorted_head, sorted_tail}
use Rattle.fab_reach_base.specs.fab_lemmas.Lists.{IsListOf}
use Rattle.fab_reach_base.proofs.fab_lemmas.Walks.{all_push}
use Rattle.fab_store_world.specs.InventoryGathering.{IsPushed, IsRowOfEntries}

-- an item of a list is its head, or of its tail
head_or_tail : {X : Type 0} (y : X) (ys : List X) (x : X) → Contains (y ∷ ys) x → (y ≡ x) ⊎ Contains ys x
head_or_tail y ys x h = elim (Contains-append_cases (y ∷ []) ys x h) [
  | inl a ↦ elim (Contains-push_cases [] y x a) [ inl n ↦ absurd (omega (arith, n.1)) | inr e ↦ inl e ]
  | inr t ↦ inr t
]

in_tail : {X : Type 0} (y : X) (ys : List X) (x : X) → Contains ys x → Contains (y ∷ ys) x
in_tail y ys x h = (suc h.0, omega (arith, h.1), h.2)

-- what each item has, an item among them has
each_has : {X : Type 0} (P : X → Type 0) (xs : List X) (x : X) → AllByRecursion P xs → Contains xs x → P x
each_has P [] x h c = absurd (omega (arith, c.1))
each_has P (y ∷ ys) x h c = elim (head_or_tail y ys x c) [ inl e ↦ subst P e h.0 | inr t ↦ each_has P ys x h.1 t ]

pub sorted_none : {X : Type 0} (N : X → X → Ordering) → IsStrictlySortedBy N []
unfolding IsStrictlySortedBy
sorted_none N = tt

-- one more item behind sorted ones, which are all below it
sorted_push : {X : Type 0} (N : X → X → Ordering) (xs : List X) (y : X) → IsStrictlySortedBy N xs → ((x : X) → Contains xs x → N x y ≡ Less) → IsStrictlySortedBy N (xs ++ y ∷ [])
unfolding IsStrictlySortedBy
sorted_push N [] y s below = (tt, tt)
sorted_push N (x ∷ xs) y s below = (all_push (λ z. N x z ≡ Less) xs y s.0 (below x (Contains-append_left (x ∷ []) xs x (Contains-push [] x))), sorted_push N xs y s.1 (λ z c. below z (in_tail x xs z c)))

-- what all keys have, one in the middle has
behind : {K X : Type 0} (Q : K → Type 0) (before : List (K × X)) (e : K × X) (more : List (K × X)) → AllByRecursion Q (keys_of (before ++ e ∷ more)) → Q e.0
behind Q [] e more h = h.0
behind Q (b ∷ before) e more h = behind Q before e more h.1

-- an entry so far is below the next
below_next : {K X : Type 0} (O : K → K → Ordering) (before : List (K × X)) (e : K × X) (more : List (K × X)) → IsStrictlySortedBy O (keys_of (before ++ e ∷ more)) → (d : K × X) → Contains before d → O d.0 e.0 ≡ Less
below_next O [] e more s d c = absurd (omega (arith, c.1))
below_next {K} {X} O (b ∷ before) e more s d c = elim (head_or_tail b before d c) [
  | inl is ↦ subst (λ (z : K × X). O z.0 e.0 ≡ Less) is (behind (λ k. O b.0 k ≡ Less) before e more (sorted_head O b.0 (keys_of (before ++ e ∷ more)) s))
  | inr t ↦ below_next O before e more (sorted_tail O b.0 (keys_of (before ++ e ∷ more)) s) d t
]

module _ {K X R : Type 0} {O : K → K → Ordering} {N : R → R → Ordering} (row : K → X → Option R) (P : R → Type 0) (by_key : (j k : K) (v w : X) (r s : R) → row j v ≡ Some r → row k w ≡ Some s → N r s ≡ O j k) where
  -- no entry so far
  pub listed_none : (xs : List R) → xs ≡ [] → IsListOf N (IsRowOfEntries row P []) xs
  listed_none xs none = subst (IsListOf N (IsRowOfEntries row P [])) (sym none) (record { sorted = sorted_none N; sound = λ r c. absurd (omega (arith, c.1)); complete = λ r h. absurd (omega (arith, h.1.1)) })

  module _ (before : List (K × X)) (e : K × X) where
    wider : (x : R) → IsRowOfEntries row P before x → IsRowOfEntries row P (before ++ e ∷ []) x
    wider x h = (h.0, Contains-append_left before (e ∷ []) h.0 h.1, h.2)

    -- what the row is of an entry that is the last
    last_row : (o : Option R) → o ≡ row e.0 e.1 → (d : K × X) (x : R) → e ≡ d → row d.0 d.1 ≡ Some x → o ≡ Some x
    last_row o is d x same at = is ∙ (λ i. row (same i).0 (same i).1) ∙ at

    -- the row of one entry more, if it has one that has P
    pub listed_more : (es it more : List (K × X)) (found : Option R) (old new : List R) → es ≡ before ++ it → it ≡ e ∷ more → IsStrictlySortedBy O (keys_of es) → found ≡ row e.0 e.1 → IsPushed P found old new
        → IsListOf N (IsRowOfEntries row P before) old → IsListOf N (IsRowOfEntries row P (before ++ e ∷ [])) new
    listed_more es it more None old new so_far next sorted is pushed l = subst (IsListOf N (IsRowOfEntries row P (before ++ e ∷ []))) (sym pushed) (record {
      sorted = l.sorted;
      sound = λ x c. wider x (l.sound x c);
      complete = λ x h. elim (Contains-push_cases before e h.0 h.1) [
        | inl o ↦ l.complete x (h.0, o, h.2)
        | inr same ↦ let no : ◌≡◌ {A = Option R} None (Some x) = last_row None is h.0 x same h.2.1 in absurd cc
      ];
    })
    listed_more es it more (Some r) old new so_far next sorted is pushed l = elim pushed [
      | inl p ↦ subst (IsListOf N (IsRowOfEntries row P (before ++ e ∷ []))) (sym p.1) (record {
        sorted = sorted_push N old r l.sorted (λ x c. let h = l.sound x c in
            by_key h.0.0 e.0 h.0.1 e.1 x r h.2.1 (sym is) ∙ below_next O before e more (subst (λ ys. IsStrictlySortedBy O (keys_of ys)) (so_far ∙ ap (λ z. before ++ z) next) sorted) h.0 h.1);
        sound = λ x c. elim (Contains-push_cases old r x c) [
          | inl o ↦ wider x (l.sound x o)
          | inr same ↦ (e, Contains-push before e, (subst P same p.0, sym is ∙ ap Some same))
        ];
        complete = λ x h. elim (Contains-push_cases before e h.0 h.1) [
          | inl o ↦ Contains-append_left old (r ∷ []) x (l.complete x (h.0, o, h.2))
          | inr same ↦ subst (Contains (old ++ r ∷ [])) (one r x (last_row (Some r) is h.0 x same h.2.1)) (Contains-push old r)
        ];
      })
      | inr p ↦ subst (IsListOf N (IsRowOfEntries row P (before ++ e ∷ []))) (sym p.1) (record {
        sorted = l.sorted;
        sound = λ x c. wider x (l.sound x c);
        complete = λ x h. elim (Contains-push_cases before e h.0 h.1) [
          | inl o ↦ l.complete x (h.0, o, h.2)
          | inr same ↦ absurd (p.0 (subst P (sym (one r x (last_row (Some r) is h.0 x same h.2.1))) h.2.0))
        ];
      })
    ]
      where
        one : (a b : R) → ◌≡◌ {A = Option R} (Some a) (Some b) → a ≡ b
        one a b is_one = cc
