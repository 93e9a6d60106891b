-- What loops add, item by item.
use Rattle.std.proofs.Common.{◌≡◌, ◌<◌, ◌≤◌, ◌+◌, ℕ, length, take, get_or, List, [], ◌∷◌, ◌++◌, Contains, inl, inr, sym, ap, ◌∙◌, subst, arith}
use Rattle.std.proofs.lemmas.List.{take_more, take_all}
use Rattle.std.proofs.lemmas.List.Elements.{Contains-push_cases, Contains-append_left, Contains-push}
use Rattle.fab_reach_base.specs.Adding.{Adds, AddsOnly}

module _ {Y : Type 0} where
  -- nothing has P, and nothing is added
  pub adds_none : (P old : Y → Type 0) → ((y : Y) → ¬ P y) → Adds P old old
  adds_none P old none = record { sound = λ y h. inl h; kept = λ y h. h; there = λ y p. absurd (none y p) }

  -- the same, said otherwise
  pub adds_as : (P Q old new : Y → Type 0) → ((y : Y) → P y → Q y) → ((y : Y) → Q y → P y) → Adds P old new → Adds Q old new
  adds_as P Q old new to from a = record {
    sound = λ y h. elim (a.sound y h) [ inl o ↦ inl o | inr p ↦ inr (to y p) ];
    kept = a.kept;
    there = λ y q. a.there y (from y q);
  }

  -- what was added to none
  pub from_none : (P old new : Y → Type 0) → ((y : Y) → ¬ old y) → Adds P old new → (y : Y) → (new y → P y) × (P y → new y)
  from_none P old new none a y = ((λ h. elim (a.sound y h) [ inl o ↦ absurd (none y o) | inr p ↦ p ]), a.there y)

  -- nothing but some, said otherwise
  pub only_as : (P Q old new : Y → Type 0) → ((y : Y) → P y → Q y) → AddsOnly P old new → AddsOnly Q old new
  only_as P Q old new to a y h = elim (a y h) [ inl o ↦ inl o | inr p ↦ inr (to y p) ]

-- what the items so far add, where each adds what Q says
module _ {K Y : Type 0} (Q : K → Y → Type 0) where
  abbrev pub Before : List K → Y → Type 0
  Before before y = (k : K) × Contains before k × Q k y

  -- no item so far
  pub before_none : (old : Y → Type 0) → Adds (Before []) old old
  before_none old = adds_none (Before []) old (λ y h. omega (arith, h.1.1))

  -- one item more
  pub before_more : (before : List K) (k : K) (old mid new : Y → Type 0) → Adds (Before before) old mid → Adds (Q k) mid new → Adds (Before (before ++ k ∷ [])) old new
  before_more before k old mid new a b = record {
    sound = λ y h. elim (b.sound y h) [
      | inl m ↦ elim (a.sound y m) [ inl o ↦ inl o | inr w ↦ inr (w.0, Contains-append_left before (k ∷ []) w.0 w.1, w.2) ]
      | inr q ↦ inr (k, Contains-push before k, q)
    ];
    kept = λ y h. b.kept y (a.kept y h);
    there = λ y w. elim (Contains-push_cases before k w.0 w.1) [
      | inl o ↦ b.kept y (a.there y (w.0, o, w.2))
      | inr e ↦ b.there y (subst (λ z. Q z y) (sym e) w.2)
    ];
  }

  -- an item that adds nothing
  pub before_skip : (before : List K) (k : K) (old mid : Y → Type 0) → Adds (Before before) old mid → ((y : Y) → ¬ Q k y) → Adds (Before (before ++ k ∷ [])) old mid
  before_skip before k old mid a none = before_more before k old mid mid a (adds_none (Q k) mid none)

  -- where a step stops, only what items add was added
  pub before_stop : (before : List K) (k : K) (old mid new : Y → Type 0) → Adds (Before before) old mid → AddsOnly (Q k) mid new → AddsOnly (Before (before ++ k ∷ [])) old new
  before_stop before k old mid new a b y h = elim (b y h) [
    | inl m ↦ elim (a.sound y m) [ inl o ↦ inl o | inr w ↦ inr (w.0, Contains-append_left before (k ∷ []) w.0 w.1, w.2) ]
    | inr q ↦ inr (k, Contains-push before k, q)
  ]

  -- ---- over a slice, by its index

  -- the item at the index
  pub before_next : (xs : List K) (i : ℕ) (k : K) (old mid new : Y → Type 0) → i < length xs → k ≡ get_or xs i k → Adds (Before (take i xs)) old mid → Adds (Q k) mid new → Adds (Before (take (i + 1) xs)) old new
  before_next xs i k old mid new h is a b = subst (λ ys. Adds (Before ys) old new) (ap (λ x. take i xs ++ x ∷ []) is ∙ sym (take_more xs i k h)) (before_more (take i xs) k old mid new a b)

  -- an item that adds nothing
  pub before_pass : (xs : List K) (i : ℕ) (k : K) (old mid : Y → Type 0) → i < length xs → k ≡ get_or xs i k → Adds (Before (take i xs)) old mid → ((y : Y) → ¬ Q k y) → Adds (Before (take (i + 1) xs)) old mid
  before_pass xs i k old mid h is a none = before_next xs i k old mid mid h is a (adds_none (Q k) mid none)

  -- past the last item
  pub before_last : (xs : List K) (i : ℕ) (old new : Y → Type 0) → length xs ≤ i → Adds (Before (take i xs)) old new → Adds (Before xs) old new
  before_last xs i old new h a = subst (λ ys. Adds (Before ys) old new) (take_all i xs h) a
