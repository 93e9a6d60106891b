-- Positions in an order, and in the order with one name more behind.
use Rattle.std.proofs.Common.{◌≡◌, ◌<◌, ◌≤◌, ◌+◌, ◌-◌, ℕ, List, [], ◌∷◌, ◌++◌, zero, length, get_or, Contains, inl, inr, sym, ap, ◌∙◌, subst, arith}
use Rattle.std.proofs.lemmas.List.{length-append, take_all, take_more}
use Rattle.std.proofs.lemmas.List.Elements.{Contains-append_left, Contains-append_cases, Contains-push_cases}
use Rattle.fab_store_world.specs.Orders.{numbered}
use Rattle.fab_store_world.specs.Positions.{IsPosition, IsOrder}
use Rattle.fab_store_world.proofs.Picked.{later}
use Rattle.fab_store_world.proofs.PlacedNames.{one_place, placed_name}
use Rattle.fab_desk_commands.specs.Nexts.{all_but_last}
use Rattle.fab_desk_rows.specs.Places.{HasOnePosition}

-- a name has one position
pub one_position : (order : List (List ℕ)) → IsOrder order → (n : List ℕ) (k l : ℕ) → IsPosition order n k → IsPosition order n l → k ≡ l
one_position order once n k l (inl h) (inl g) = one_place order once n k l h g
one_position order once n k l (inl h) (inr (zero_is, none)) = absurd (none (placed_name 1 order n k h))
one_position order once n k l (inr (zero_is, none)) (inl g) = absurd (none (placed_name 1 order n l g))
one_position order once n k l (inr (zero_is, none)) (inr (is_zero, nowhere)) = zero_is ∙ sym is_zero

-- ---- the last name

last_numbered : (j : ℕ) (rest : List (List ℕ)) (n : List ℕ) → Contains (numbered j (rest ++ n ∷ [])) (length rest + j, n)
last_numbered j [] n = let at : j ≡ zero + j = omega arith in (0, omega arith, λ i. (at i, n))
last_numbered j (m ∷ rest) n =
    let more = last_numbered (j + 1) rest n in
    later (j, m) (length (m ∷ rest) + j, n) (numbered (j + 1) (rest ++ n ∷ [])) (subst (λ (k : ℕ). Contains (numbered (j + 1) (rest ++ n ∷ [])) (k, n)) (omega arith) more)

-- the last of so many names has their number
pub last_position : (order : List (List ℕ)) (count : ℕ) (n : List ℕ) → (rest : List (List ℕ)) × (order ≡ rest ++ n ∷ []) × (length order ≡ count) → IsPosition order n count
last_position order count n (rest, is, many) =
    let grown = length-append rest (n ∷ []) in
    let same = ap length is in
    let so_many : length rest + 1 ≡ count = omega (arith, grown, same, many) in
    inl (subst (λ (names : List (List ℕ)). Contains (numbered 1 names) (count, n)) (sym is) (subst (λ (k : ℕ). Contains (numbered 1 (rest ++ n ∷ [])) (k, n)) so_many (last_numbered 1 rest n)))

-- a name that goes with the last was the last
pub was_last : (order : List (List ℕ)) (n : List ℕ) → Contains order n → ¬ Contains (all_but_last order) n → order ≡ all_but_last order ++ n ∷ []
was_last order n there gone = elim (Contains-push_cases (all_but_last order) end n (subst (λ (names : List (List ℕ)). Contains names n) split there)) [
  | inl before ↦ absurd (gone before)
  | inr is ↦ split ∙ ap (λ (m : List ℕ). all_but_last order ++ m ∷ []) is
]
  where
    some : length order - 1 < length order
    some = omega (arith, there.1)

    end : List ℕ
    end = get_or order (length order - 1) n

    split : order ≡ all_but_last order ++ end ∷ []
    split =
        let all : length order ≤ length order - 1 + 1 = omega arith in
        sym (take_all (length order - 1 + 1) order all) ∙ take_more order (length order - 1) n some

-- ---- all others

numbered_append : (j : ℕ) (xs ys : List (List ℕ)) → numbered j (xs ++ ys) ≡ numbered j xs ++ numbered (j + length xs) ys
numbered_append j [] ys = ap (λ k. numbered k ys) (omega arith)
numbered_append j (x ∷ xs) ys =
    ap (λ es. (j, x) ∷ es) (numbered_append (j + 1) xs ys ∙ ap (λ k. numbered (j + 1) xs ++ numbered k ys) (let e : j + 1 + length xs ≡ j + length (x ∷ xs) = omega arith in e))

module _ (rest : List (List ℕ)) (n m : List ℕ) (apart : ¬ (m ≡ n)) where
  not_last : ¬ Contains (n ∷ []) m
  not_last h = elim (Contains-push_cases [] n m h) [ inl none ↦ absurd (omega (arith, none.1)) | inr is ↦ apart (sym is) ]

  without_it : (k : ℕ) → Contains (numbered 1 (rest ++ n ∷ [])) (k, m) → Contains (numbered 1 rest) (k, m)
  without_it k h = elim (Contains-append_cases (numbered 1 rest) (numbered (1 + length rest) (n ∷ [])) (k, m) (subst (λ es. Contains es (k, m)) (numbered_append 1 rest (n ∷ [])) h)) [
    | inl here ↦ here
    | inr more ↦ absurd (not_last (placed_name (1 + length rest) (n ∷ []) m k more))
  ]

  with_it : (k : ℕ) → Contains (numbered 1 rest) (k, m) → Contains (numbered 1 (rest ++ n ∷ [])) (k, m)
  with_it k h = subst (λ es. Contains es (k, m)) (sym (numbered_append 1 rest (n ∷ []))) (Contains-append_left (numbered 1 rest) (numbered (1 + length rest) (n ∷ [])) (k, m) h)

  more_there : (k : ℕ) → IsPosition rest m k → IsPosition (rest ++ n ∷ []) m k
  more_there k (inl h) = inl (with_it k h)
  more_there k (inr (zero_is, none)) = inr (zero_is, λ h. elim (Contains-push_cases rest n m h) [ inl here ↦ none here | inr is ↦ apart (sym is) ])

  less_there : (k : ℕ) → IsPosition (rest ++ n ∷ []) m k → IsPosition rest m k
  less_there k (inl h) = inl (without_it k h)
  less_there k (inr (zero_is, none)) = inr (zero_is, λ h. none (Contains-append_left rest (n ∷ []) m h))

  -- another name stands where it stood
  pub beside_last : HasOnePosition rest (rest ++ n ∷ []) m
  beside_last k = (more_there k, less_there k)
