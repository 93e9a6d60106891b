-- The least number with a property among those seen so far.
use Rattle.std.proofs.Common.{ℕ, ◌≡◌, ◌≤◌, List, [], ◌∷◌, ◌++◌, Contains, Option, None, Some, MatchOption, min, is_some, false, refl, sym, subst, inl, inr, arith}
use mathlib.Core.Bool.{true≢false}
use Rattle.std.proofs.lemmas.Bool.{cases_lt}
use Rattle.std.proofs.lemmas.List.Elements.{Contains-push_cases, Contains-append_left, Contains-push}
use Rattle.fab_inventory.specs.Holders.{min_of}

-- the number is among these, has the property, and no number among these below it has
abbrev pub IsLeastOf : (ℕ → Type 0) → List ℕ → ℕ → Type 0
IsLeastOf P xs n = Contains xs n × P n × ((q : ℕ) → Contains xs q → P q → n ≤ q)

-- what is kept of these: the least with the property, or nothing where none has it
abbrev pub LeastSoFar : (ℕ → Type 0) → List ℕ → Option ℕ → Type 0
LeastSoFar P xs o = MatchOption o ((q : ℕ) → Contains xs q → ¬ P q) (IsLeastOf P xs)

module _ (P : ℕ → Type 0) where
  pub least_none : LeastSoFar P [] None
  least_none q h = absurd (omega (arith, h.1))

  -- one more without the property
  pub least_skip : (xs : List ℕ) (x : ℕ) (o : Option ℕ) → ¬ P x → LeastSoFar P xs o → LeastSoFar P (xs ++ x ∷ []) o
  least_skip xs x None lacks h = λ q in_q p. elim (Contains-push_cases xs x q in_q) [ inl a ↦ h q a p | inr e ↦ lacks (subst P (sym e) p) ]
  least_skip xs x (Some n) lacks h =
      (Contains-append_left xs _ n h.0, h.1, λ q in_q p. elim (Contains-push_cases xs x q in_q) [ inl a ↦ h.2 q a p | inr e ↦ absurd (lacks (subst P (sym e) p)) ])

  -- one more with the property
  pub least_take : (xs : List ℕ) (x : ℕ) (o : Option ℕ) → P x → LeastSoFar P xs o → LeastSoFar P (xs ++ x ∷ []) (Some (min_of o x))
  least_take xs x None p h = (Contains-push xs x, p, λ q in_q r. elim (Contains-push_cases xs x q in_q) [ inl a ↦ absurd (h q a r) | inr e ↦ omega arith ])
  least_take xs x (Some n) p h = elim (cases_lt x n) [
    | inl lt ↦ let e : x ≡ min n x = omega arith in subst (IsLeastOf P (xs ++ x ∷ [])) e (Contains-push xs x, p, λ q in_q r. elim (Contains-push_cases xs x q in_q) [ inl a ↦ let b : n ≤ q = h.2 q a r in omega arith | inr f ↦ omega arith ])
    | inr le ↦ let e : n ≡ min n x = omega arith in subst (IsLeastOf P (xs ++ x ∷ [])) e (Contains-append_left xs _ n h.0, h.1, λ q in_q r. elim (Contains-push_cases xs x q in_q) [ inl a ↦ h.2 q a r | inr f ↦ omega arith ])
  ]

-- a look-up that finds nothing
pub none_from_test : {X : Type 0} (o : Option X) → is_some o ≡ false → o ≡ None
none_from_test None h = refl
none_from_test (Some x) h = absurd (true≢false h)
