-- What passes a test, of a list.
use Rattle.std.proofs.Common.{◌≡◌, inl, inr, List, [], ◌∷◌, ◌++◌, map, Bool, true, false, cond, Contains, refl, sym, ap, ◌∙◌, subst}
use Rattle.std.specs.List.{filter}
use Rattle.std.proofs.lemmas.List.{append-nil, append_assoc, map-append}
use Rattle.std.proofs.lemmas.List.Elements.{filter-append}
use Rattle.fab_desk_base.proofs.Lists.{head_or_later, here, later, none_there}

module _ {X : Type 0} (test : X → Bool) where
  pub from_filter : (xs : List X) (x : X) → Contains (filter test xs) x → Contains xs x × (test x ≡ true)
  from_filter [] x c = absurd (none_there x c)
  from_filter (y ∷ ys) x c = by (from_filter ys x) (test y) refl c
    where
      after : Contains ys x × (test x ≡ true) → Contains (y ∷ ys) x × (test x ≡ true)
      after k = (later y ys x k.0, k.1)

      by : (Contains (filter test ys) x → Contains ys x × (test x ≡ true)) → (b : Bool) → test y ≡ b → Contains (cond b (y ∷ filter test ys) (filter test ys)) x → Contains (y ∷ ys) x × (test x ≡ true)
      by rest false is d = after (rest d)
      by rest true is d = elim (head_or_later y (filter test ys) x d) [
        | inl e ↦ (subst (Contains (y ∷ ys)) e (here y ys), subst (λ z. test z ≡ true) e is)
        | inr more ↦ after (rest more)
      ]

  pub into_filter : (xs : List X) (x : X) → Contains xs x → test x ≡ true → Contains (filter test xs) x
  into_filter [] x c passes = absurd (none_there x c)
  into_filter (y ∷ ys) x c passes = elim (head_or_later y ys x c) [
    | inl e ↦ subst (λ b. Contains (cond b (y ∷ filter test ys) (filter test ys)) x) (sym (ap test e ∙ passes)) (subst (Contains (y ∷ filter test ys)) e (here y (filter test ys)))
    | inr more ↦ by (test y) (into_filter ys x more passes)
  ]
    where
      by : (b : Bool) → Contains (filter test ys) x → Contains (cond b (y ∷ filter test ys) (filter test ys)) x
      by true d = later y (filter test ys) x d
      by false d = d

  -- one item more, which passes, and one that does not
  module _ {Y : Type 0} (f : X → Y) (before : List X) (x : X) (old mid new : List Y) (so_far : mid ≡ old ++ map f (filter test before)) where
    pub filter_kept : test x ≡ true → new ≡ mid ++ f x ∷ [] → new ≡ old ++ map f (filter test (before ++ x ∷ []))
    filter_kept passes made =
        let one : filter test (x ∷ []) ≡ x ∷ [] = ap (λ (b : Bool). cond b (x ∷ []) []) passes in
        let all : filter test (before ++ x ∷ []) ≡ filter test before ++ x ∷ [] = filter-append test before (x ∷ []) ∙ ap (λ (ys : List X). filter test before ++ ys) one in
        made
        ∙ ap (λ (ys : List Y). ys ++ f x ∷ []) so_far
        ∙ append_assoc old (map f (filter test before)) (f x ∷ [])
        ∙ ap (λ (ys : List Y). old ++ ys) (sym (ap (map f) all ∙ map-append f (filter test before) (x ∷ [])))

    pub filter_passed : test x ≡ false → mid ≡ old ++ map f (filter test (before ++ x ∷ []))
    filter_passed fails =
        let none : filter test (x ∷ []) ≡ [] = ap (λ (b : Bool). cond b (x ∷ []) []) fails in
        let all : filter test (before ++ x ∷ []) ≡ filter test before = filter-append test before (x ∷ []) ∙ ap (λ (ys : List X). filter test before ++ ys) none ∙ append-nil (filter test before) in
        so_far ∙ ap (λ (xs : List X). old ++ map f xs) (sym all)
