-- Rows that are picked from the entries of a map, in their order.
use Rattle.std.proofs.Common.{◌≡◌, ◌⊎◌, List, [], ◌∷◌, ◌++◌, zero, suc, Contains, inl, inr, refl, sym, ap, ◌∙◌, subst, arith}
use Rattle.std.specs.declared.cmp.Ordering.{Ordering}
use Rattle.std.specs.declared.cmp.Ordering.TheVariants.{Less}
use Rattle.std.specs.Ordering.{on}
use Rattle.std.specs.List.{AllByRecursion}
use Rattle.std.specs.List.Sorted.{IsStrictlySortedBy}
use Rattle.std.specs.Map.{keys_of}
use Rattle.std.proofs.lemmas.Map.Keys.{sorted_head, sorted_tail}
use Rattle.std.proofs.lemmas.List.Elements.{Contains-push_cases, Contains-append_left, Contains-push}
use Rattle.fab_reach_base.proofs.fab_lemmas.Walks.{all_push}

-- an item of a list is its first, or one of the others
pub first_or_later : {X : Type 0} (x y : X) (xs : List X) → Contains (x ∷ xs) y → (x ≡ y) ⊎ Contains xs y
first_or_later x y xs (zero, l, e) = inl e
first_or_later x y xs (suc k, l, e) = inr (k, omega (arith, l), e)

pub later : {X : Type 0} (x y : X) (xs : List X) → Contains xs y → Contains (x ∷ xs) y
later x y xs h = let l = h.1 in (suc h.0, omega arith, h.2)

-- one item more, behind all others
pub push_sorted : {X : Type 0} (T : X → X → Ordering) (xs : List X) (y : X) → IsStrictlySortedBy T xs → ((x : X) → Contains xs x → T x y ≡ Less) → IsStrictlySortedBy T (xs ++ y ∷ [])
unfolding IsStrictlySortedBy
push_sorted T [] y s h = (tt, tt)
push_sorted T (x ∷ xs) y s h = (all_push (λ z. T x z ≡ Less) xs y s.0 (h x (0, omega arith, refl)), push_sorted T xs y s.1 (λ z there. h z (later x z xs there)))

module _ {K X : Type 0} (O : K → K → Ordering) where
  passed : (P : K → Type 0) (before : List (K × X)) (e : K × X) (more : List (K × X)) → AllByRecursion P (keys_of (before ++ e ∷ more)) → P e.0
  passed P [] e more h = h.0
  passed P (b ∷ before) e more h = passed P before e more h.1

  -- the keys of a walk so far are below the key where it stands
  pub key_below : (before : List (K × X)) (e : K × X) (more : List (K × X)) → IsStrictlySortedBy O (keys_of (before ++ e ∷ more)) → (d : K × X) → Contains before d → O d.0 e.0 ≡ Less
  key_below [] e more s d h = absurd (omega (arith, h.1))
  key_below (b ∷ before) e more s d h = elim (first_or_later b d before h) [
    | inl is ↦ subst (λ (c : K × X). O c.0 e.0 ≡ Less) is (passed (λ y. O b.0 y ≡ Less) before e more (sorted_head O b.0 (keys_of (before ++ e ∷ more)) s))
    | inr there ↦ key_below before e more (sorted_tail O b.0 (keys_of (before ++ e ∷ more)) s) d there
  ]

-- a row for each entry with P
module _ {K X R : Type 0} (O : K → K → Ordering) (key : R → K) (P : K × X → Type 0) (f : K × X → R) where
  pub record Picked (before : List (K × X)) (rows : List R) : Type 0 where
    pub sorted : IsStrictlySortedBy (on key O) rows
    pub sound : (r : R) → Contains rows r → (e : K × X) × Contains before e × P e × (r ≡ f e)
    pub complete : (e : K × X) → Contains before e → P e → Contains rows (f e)

  -- no entry yet
  pub picked_none : Picked [] []
  unfolding IsStrictlySortedBy
  picked_none = record {
    sorted = tt;
    sound = λ r h. absurd (omega (arith, h.1));
    complete = λ e h p. absurd (omega (arith, h.1));
  }

  -- an entry without P
  pub picked_skip : (before : List (K × X)) (e : K × X) (rows : List R) → ¬ P e → Picked before rows → Picked (before ++ e ∷ []) rows
  picked_skip before e rows none so = record {
    sorted = so.sorted;
    sound = λ r h. let w = so.sound r h in (w.0, Contains-append_left before (e ∷ []) w.0 w.1, w.2, w.3);
    complete = λ d h p. elim (Contains-push_cases before e d h) [ inl there ↦ so.complete d there p | inr is ↦ absurd (none (subst P (sym is) p)) ];
  }

  -- one with P
  pub picked_more : ((e : K × X) → key (f e) ≡ e.0) → (before more : List (K × X)) (e : K × X) (rows : List R) → IsStrictlySortedBy O (keys_of (before ++ e ∷ more)) → P e → Picked before rows → Picked (before ++ e ∷ []) (rows ++ f e ∷ [])
  picked_more named before more e rows s p so = record {
    sorted = push_sorted (on key O) rows (f e) so.sorted (λ r h.
        let w = so.sound r h in
        let keyed : key r ≡ w.0.0 = ap key w.3 ∙ named w.0 in
        ap (λ k. O k (key (f e))) keyed ∙ ap (O w.0.0) (named e) ∙ key_below O before e more s w.0 w.1);
    sound = λ r h. elim (Contains-push_cases rows (f e) r h) [
      | inl there ↦ let w = so.sound r there in (w.0, Contains-append_left before (e ∷ []) w.0 w.1, w.2, w.3)
      | inr is ↦ (e, Contains-push before e, p, sym is)
    ];
    complete = λ d h q. elim (Contains-push_cases before e d h) [
      | inl there ↦ Contains-append_left rows (f e ∷ []) (f d) (so.complete d there q)
      | inr is ↦ subst (λ c. Contains (rows ++ f e ∷ []) (f c)) is (Contains-push rows (f e))
    ];
  }
