-- Rows put in and taken out one by one.
use Rattle.std.proofs.Common.{ℕ, ◌≡◌, ◌<◌, ◌≤◌, ◌+◌, ◌⊎◌, inl, inr, List, [], ◌∷◌, ◌++◌, length, take, get_or, Contains, Bool, true, sym, ap, ◌∙◌, subst, arith}
use Rattle.std.proofs.lemmas.List.{take_more, take_all}
use Rattle.std.proofs.lemmas.List.Elements.{Contains-push_cases, Contains-append_left, Contains-push}
use Rattle.fab_reach_base.specs.Records.{ConfigRows}
use Rattle.fab_store_rows.specs.declared.config_row.ConfigRow.{ConfigRow}
use Rattle.fab_store_rows.specs.Standing.{Stands}
use Rattle.fab_store_edits.specs.Inner.Edits.{is_sole, is_head, AreTaken, ArePut, Of, StopsAt, HoldsOne}
use Rattle.fab_store_edits.specs.Inner.Leads.{TakesIf, PutsIf, RefusesIf, HoldsIf}

-- an item of a list, by its index
pub item_in : (xs : List ConfigRow) (i : ℕ) (k : ConfigRow) → i < length xs → k ≡ get_or xs i k → Contains xs k
item_in xs i k h is = (i, h, sym is)

pub next_is : (xs : List ConfigRow) (i : ℕ) (k : ConfigRow) → i < length xs → k ≡ get_or xs i k → take i xs ++ k ∷ [] ≡ take (i + 1) xs
next_is xs i k h is = ap (λ (x : ConfigRow). take i xs ++ x ∷ []) is ∙ sym (take_more xs i k h)

-- all rows of a list, by its index
module _ (P : ConfigRow → Type 0) where
  pub all_next : (xs : List ConfigRow) (i : ℕ) (k : ConfigRow) → i < length xs → k ≡ get_or xs i k → ((r : ConfigRow) → Contains (take i xs) r → P r) → P k → (r : ConfigRow) → Contains (take (i + 1) xs) r → P r
  all_next xs i k h is before p = subst (λ ys. (r : ConfigRow) → Contains ys r → P r) (next_is xs i k h is) (λ r c. elim (Contains-push_cases (take i xs) k r c) [ inl o ↦ before r o | inr e ↦ subst P e p ])

  pub all_last : (xs : List ConfigRow) (i : ℕ) → length xs ≤ i → ((r : ConfigRow) → Contains (take i xs) r → P r) → (r : ConfigRow) → Contains xs r → P r
  all_last xs i h all = subst (λ ys. (r : ConfigRow) → Contains ys r → P r) (take_all i xs h) all

module _ (test : ConfigRow → Bool) (b : Bool) where
  more : (xs : List ConfigRow) (k x : ConfigRow) → Of test b (xs ++ k ∷ []) x → Of test b xs x ⊎ ((x ≡ k) × (test k ≡ b))
  more xs k x h = elim (Contains-push_cases xs k x h.0) [ inl c ↦ inl (c, h.1) | inr e ↦ inr (sym e, ap test e ∙ h.1) ]

  of_old : (xs : List ConfigRow) (k x : ConfigRow) → Of test b xs x → Of test b (xs ++ k ∷ []) x
  of_old xs k x h = (Contains-append_left xs (k ∷ []) x h.0, h.1)

  of_new : (xs : List ConfigRow) (k x : ConfigRow) → (x ≡ k) × (test k ≡ b) → Of test b (xs ++ k ∷ []) x
  of_new xs k x h = (subst (Contains (xs ++ k ∷ [])) (sym h.0) (Contains-push xs k), ap test h.0 ∙ h.1)

  none_of : (x : ConfigRow) → ¬ Of test b [] x
  none_of x h = let k = h.0 in omega (arith, k.1)

-- ---- taken
pub taken_none : (b : Bool) (c : ConfigRows) → AreTaken (Of is_sole b []) c c
taken_none b c = record { gone = λ x h. absurd (none_of is_sole b x h); kept = λ x h. h; left = λ x h. inl h }

taken_more : (b : Bool) (xs : List ConfigRow) (k : ConfigRow) (old mid new : ConfigRows) → AreTaken (Of is_sole b xs) old mid → TakesIf b k mid new → AreTaken (Of is_sole b (xs ++ k ∷ [])) old new
taken_more b xs k old mid new t s = record {
  gone = λ x h n. elim (more is_sole b xs k x h) [ inl o ↦ t.gone x o (s.kept x n) | inr e ↦ s.gone e.1 (subst (Stands new) e.0 n) ];
  kept = λ x n. t.kept x (s.kept x n);
  left = λ x o. elim (t.left x o) [ inl m ↦ elim (s.left x m) [ inl n ↦ inl n | inr e ↦ inr (of_new is_sole b xs k x e) ] | inr h ↦ inr (of_old is_sole b xs k x h) ];
}

pub taken_next : (b : Bool) (xs : List ConfigRow) (i : ℕ) (k : ConfigRow) (old mid new : ConfigRows) → i < length xs → k ≡ get_or xs i k → AreTaken (Of is_sole b (take i xs)) old mid → TakesIf b k mid new → AreTaken (Of is_sole b (take (i + 1) xs)) old new
taken_next b xs i k old mid new h is t s = subst (λ ys. AreTaken (Of is_sole b ys) old new) (next_is xs i k h is) (taken_more b (take i xs) k old mid new t s)

pub taken_last : (b : Bool) (xs : List ConfigRow) (i : ℕ) (old new : ConfigRows) → length xs ≤ i → AreTaken (Of is_sole b (take i xs)) old new → AreTaken (Of is_sole b xs) old new
taken_last b xs i old new h t = subst (λ ys. AreTaken (Of is_sole b ys) old new) (take_all i xs h) t

-- ---- put
module _ (Goes : ConfigRow → Type 0) (b : Bool) where
  pub put_none : (c : ConfigRows) → ArePut Goes (Of is_head b []) c c
  put_none c = record { there = λ x h. absurd (none_of is_head b x h); kept = λ x h. inl h; left = λ x h. inl h }

  put_more : (xs : List ConfigRow) (k : ConfigRow) (old mid new : ConfigRows) → ((x : ConfigRow) → Contains (xs ++ k ∷ []) x → ¬ Goes x) → ArePut Goes (Of is_head b xs) old mid → PutsIf Goes b k mid new → ArePut Goes (Of is_head b (xs ++ k ∷ [])) old new
  put_more xs k old mid new stay t s = record {
    there = λ x h. elim (more is_head b xs k x h) [ inl o ↦ elim (s.left x (t.there x o)) [ inl n ↦ n | inr g ↦ absurd (stay x h.0 g) ] | inr e ↦ subst (Stands new) (sym e.0) (s.there e.1) ];
    kept = λ x n. elim (s.kept x n) [ inl m ↦ elim (t.kept x m) [ inl o ↦ inl o | inr h ↦ inr (of_old is_head b xs k x h) ] | inr e ↦ inr (of_new is_head b xs k x e) ];
    left = λ x o. elim (t.left x o) [ inl m ↦ s.left x m | inr g ↦ inr g ];
  }

  -- so far, and of the whole list
  pub record PutSoFar (xs : List ConfigRow) (i : ℕ) (old now : ConfigRows) : Type 0 where
    pub put : ArePut Goes (Of is_head b (take i xs)) old now
    pub within : (x : ConfigRow) → Contains (take i xs) x → Contains xs x

  pub far_none : (xs : List ConfigRow) (c : ConfigRows) → PutSoFar xs 0 c c
  far_none xs c = record { put = put_none c; within = λ x h. absurd (let k = h in omega (arith, k.1)) }

  pub far_next : (xs : List ConfigRow) (i : ℕ) (k : ConfigRow) (old mid new : ConfigRows) → i < length xs → k ≡ get_or xs i k → ((x : ConfigRow) → Contains xs x → ¬ Goes x) → PutSoFar xs i old mid → PutsIf Goes b k mid new → PutSoFar xs (i + 1) old new
  far_next xs i k old mid new h is stay t s =
      let in_more : (x : ConfigRow) → Contains (take i xs ++ k ∷ []) x → Contains xs x = λ x c. elim (Contains-push_cases (take i xs) k x c) [ inl o ↦ t.within x o | inr e ↦ subst (Contains xs) e (item_in xs i k h is) ] in
      record {
        put = subst (λ ys. ArePut Goes (Of is_head b ys) old new) (next_is xs i k h is) (put_more (take i xs) k old mid new (λ x c. stay x (in_more x c)) t.put s);
        within = subst (λ ys. (x : ConfigRow) → Contains ys x → Contains xs x) (next_is xs i k h is) in_more;
      }

  pub far_last : (xs : List ConfigRow) (i : ℕ) (old new : ConfigRows) → length xs ≤ i → PutSoFar xs i old new → ArePut Goes (Of is_head b xs) old new
  far_last xs i old new h t = subst (λ ys. ArePut Goes (Of is_head b ys) old new) (take_all i xs h) t.put

  pub far_stops : (xs : List ConfigRow) (i : ℕ) (k : ConfigRow) (old mid : ConfigRows) → i < length xs → k ≡ get_or xs i k → PutSoFar xs i old mid → RefusesIf Goes b k mid → StopsAt Goes b xs old
  far_stops xs i k old mid h is t r = record {
    config = mid;
    kept = λ x m. elim (t.put.kept x m) [ inl o ↦ inl o | inr c ↦ inr (t.within x c.0, c.1) ];
    left = t.put.left;
    row = k;
    is = (item_in xs i k h is, r.is);
    refused = r.refused;
  }

-- ---- sole rows dropped
pub record DropSoFar (xs : List ConfigRow) (i : ℕ) (old now : ConfigRows) : Type 0 where
  pub taken : AreTaken (Of is_sole true (take i xs)) old now
  pub within : (x : ConfigRow) → Contains (take i xs) x → Contains xs x

pub drop_none : (xs : List ConfigRow) (c : ConfigRows) → DropSoFar xs 0 c c
drop_none xs c = record { taken = taken_none true c; within = λ x h. absurd (let k = h in omega (arith, k.1)) }

pub drop_next : (xs : List ConfigRow) (i : ℕ) (k : ConfigRow) (old mid new : ConfigRows) → i < length xs → k ≡ get_or xs i k → DropSoFar xs i old mid → TakesIf true k mid new → DropSoFar xs (i + 1) old new
drop_next xs i k old mid new h is t s = record {
  taken = taken_next true xs i k old mid new h is t.taken s;
  within = subst (λ ys. (x : ConfigRow) → Contains ys x → Contains xs x) (next_is xs i k h is) (λ x c. elim (Contains-push_cases (take i xs) k x c) [ inl o ↦ t.within x o | inr e ↦ subst (Contains xs) e (item_in xs i k h is) ]);
}

pub drop_last : (xs : List ConfigRow) (i : ℕ) (old new : ConfigRows) → length xs ≤ i → DropSoFar xs i old new → AreTaken (Of is_sole true xs) old new
drop_last xs i old new h t = taken_last true xs i old new h t.taken

pub drop_holds : (xs : List ConfigRow) (i : ℕ) (k : ConfigRow) (old mid : ConfigRows) → i < length xs → k ≡ get_or xs i k → DropSoFar xs i old mid → HoldsIf k mid → HoldsOne xs old
drop_holds xs i k old mid h is t r = record {
  config = mid;
  kept = t.taken.kept;
  left = λ x o. elim (t.taken.left x o) [ inl m ↦ inl m | inr c ↦ inr (t.within x c.0) ];
  row = k;
  is = (item_in xs i k h is, r.is);
  stands = r.stands;
  held = r.held;
}
