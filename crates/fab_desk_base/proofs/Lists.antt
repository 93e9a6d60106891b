-- Lists and what their items have; ordered lists.
use Rattle.std.proofs.Common.{◌≡◌, ◌+◌, ◌-◌, List, [], ◌∷◌, ◌++◌, map, length, get_or, slice_get, Some, All, Contains, ◌⊎◌, inl, inr, refl, sym, ap, ◌∙◌, subst, arith}
use Rattle.std.specs.declared.cmp.Ordering.{Ordering}
use Rattle.std.specs.declared.cmp.Ordering.TheVariants.{Less}
use Rattle.std.specs.List.{AllByRecursion}
use Rattle.std.specs.List.Sorted.{IsStrictlySortedBy}
use Rattle.std.specs.Ordering.{on}
use Rattle.std.proofs.lemmas.List.{length-append, get_or-append_right}
use Rattle.std.proofs.lemmas.List.Elements.{All-contains_itself, Contains-append_cases, Contains-append_left, Contains-append_right, Contains-push, Contains-push_cases}
use Rattle.std.proofs.lemmas.Map.Keys.{sorted_head, sorted_tail}
use Rattle.std.proofs.lemmas.Option.{slice_get_read}
use Rattle.fab_reach_base.proofs.fab_lemmas.Walks.{all_push}

-- ---- items

module _ {X : Type 0} where
  pub head_or_later : (x : X) (xs : List X) (y : X) → Contains (x ∷ xs) y → (x ≡ y) ⊎ Contains xs y
  head_or_later x xs y h = elim (Contains-append_cases (x ∷ []) xs y h) [
    | inl one ↦ elim (Contains-push_cases [] x y one) [ inl none ↦ absurd (omega (arith, none.1)) | inr is ↦ inl is ]
    | inr more ↦ inr more
  ]

  pub here : (x : X) (xs : List X) → Contains (x ∷ xs) x
  here x xs = Contains-append_left (x ∷ []) xs x (Contains-push [] x)

  pub later : (x : X) (xs : List X) (y : X) → Contains xs y → Contains (x ∷ xs) y
  later x xs y h = Contains-append_right (x ∷ []) xs y h

  pub none_there : (y : X) → ¬ Contains [] y
  none_there y h = omega (arith, h.1)

  -- what each item has
  pub all_of : (P : X → Type 0) (xs : List X) → ((x : X) → Contains xs x → P x) → All P xs
  all_of P xs f = λ k d lt. f (get_or xs k d) (All-contains_itself xs k d lt)

  pub each_of : (P : X → Type 0) (xs : List X) (x : X) → AllByRecursion P xs → Contains xs x → P x
  each_of P [] x all h = absurd (none_there x h)
  each_of P (y ∷ ys) x all h = elim (head_or_later y ys x h) [ inl is ↦ subst P is all.0 | inr more ↦ each_of P ys x all.1 more ]

  pub all_front : (P : X → Type 0) (xs ys : List X) → AllByRecursion P (xs ++ ys) → AllByRecursion P xs
  all_front P [] ys h = tt
  all_front P (x ∷ xs) ys h = (h.0, all_front P xs ys h.1)

  pub all_rear : (P : X → Type 0) (xs ys : List X) → AllByRecursion P (xs ++ ys) → AllByRecursion P ys
  all_rear P [] ys h = h
  all_rear P (x ∷ xs) ys h = all_rear P xs ys h.1

  -- one item more is an item
  pub push_some : (xs : List X) (x : X) → (y : X) × (ys : List X) × (xs ++ x ∷ [] ≡ y ∷ ys)
  push_some [] x = (x, [], refl)
  push_some (y ∷ ys) x = (y, ys ++ x ∷ [], refl)

  -- the last of a list
  pub last_is : (xs : List X) (z : X) → slice_get (xs ++ z ∷ []) (length (xs ++ z ∷ []) - 1) ≡ Some z
  last_is xs z =
      let size : length (xs ++ z ∷ []) ≡ length xs + 1 = length-append xs (z ∷ []) in
      let at : length (xs ++ z ∷ []) - 1 ≡ length xs = omega (arith, size) in
      let none : length xs - length xs ≡ 0 = omega arith in
      let read : get_or (xs ++ z ∷ []) (length xs) z ≡ z = get_or-append_right xs (z ∷ []) (length xs) (length xs) z refl (omega arith) ∙ ap (λ k. get_or (z ∷ []) k z) none in
      slice_get_read (xs ++ z ∷ []) (length (xs ++ z ∷ [])) (length (xs ++ z ∷ []) - 1) z refl (omega (arith, size)) (sym (ap (λ k. get_or (xs ++ z ∷ []) k z) at ∙ read))

  -- ---- ordered lists

  module _ (R : X → X → Ordering) where
    pub sorted_push : (xs : List X) (y : X) → IsStrictlySortedBy R xs → AllByRecursion (λ x. R x y ≡ Less) xs → IsStrictlySortedBy R (xs ++ y ∷ [])
    unfolding IsStrictlySortedBy
    sorted_push [] y s h = (tt, tt)
    sorted_push (x ∷ xs) y s h = (all_push (λ w. R x w ≡ Less) xs y s.0 h.0, sorted_push xs y s.1 h.1)

    pub sorted_front : (xs ys : List X) → IsStrictlySortedBy R (xs ++ ys) → IsStrictlySortedBy R xs
    unfolding IsStrictlySortedBy
    sorted_front [] ys s = tt
    sorted_front (x ∷ xs) ys s = (all_front (λ w. R x w ≡ Less) xs ys s.0, sorted_front xs ys s.1)

    pub sorted_rear : (xs ys : List X) → IsStrictlySortedBy R (xs ++ ys) → IsStrictlySortedBy R ys
    sorted_rear [] ys s = s
    sorted_rear (x ∷ xs) ys s = sorted_rear xs ys (sorted_tail R x (xs ++ ys) s)

    -- what stands before an item is below it
    pub below_next : (xs ys : List X) (y : X) → IsStrictlySortedBy R (xs ++ y ∷ ys) → AllByRecursion (λ x. R x y ≡ Less) xs
    below_next [] ys y s = tt
    below_next (x ∷ xs) ys y s = ((all_rear (λ w. R x w ≡ Less) xs (y ∷ ys) (sorted_head R x (xs ++ y ∷ ys) s)).0, below_next xs ys y (sorted_tail R x (xs ++ y ∷ ys) s))

module _ {X Y : Type 0} (f : X → Y) where
  pub mapped : (xs : List X) (x : X) → Contains xs x → Contains (map f xs) (f x)
  mapped [] x h = absurd (none_there x h)
  mapped (y ∷ ys) x h = elim (head_or_later y ys x h) [
    | inl is ↦ subst (λ z. Contains (map f (y ∷ ys)) (f z)) is (here (f y) (map f ys))
    | inr more ↦ later (f y) (map f ys) (f x) (mapped ys x more)
  ]

  pub from_mapped : (xs : List X) (y : Y) → Contains (map f xs) y → (x : X) × Contains xs x × (f x ≡ y)
  from_mapped [] y h = absurd (none_there y h)
  from_mapped (x ∷ xs) y h = elim (head_or_later (f x) (map f xs) y h) [
    | inl is ↦ (x, here x xs, is)
    | inr more ↦ let m = from_mapped xs y more in (m.0, later x xs m.0 m.1, m.2)
  ]

  all_unmapped : (P : Y → Type 0) (xs : List X) → AllByRecursion P (map f xs) → AllByRecursion (λ x. P (f x)) xs
  all_unmapped P [] h = tt
  all_unmapped P (x ∷ xs) h = (h.0, all_unmapped P xs h.1)

  -- items whose images are ordered
  pub sorted_unmapped : (R : Y → Y → Ordering) (xs : List X) → IsStrictlySortedBy R (map f xs) → IsStrictlySortedBy (on f R) xs
  unfolding IsStrictlySortedBy
  sorted_unmapped R [] s = tt
  sorted_unmapped R (x ∷ xs) s = (all_unmapped (λ y. R (f x) y ≡ Less) xs s.0, sorted_unmapped R xs s.1)
