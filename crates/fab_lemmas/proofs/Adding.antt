-- What is added step by step.
use Rattle.std.proofs.Common.{◌≡◌, List, [], ◌∷◌, ◌++◌, Bool, true, false, cond, Contains, ◌||◌, ◌⊎◌, inl, inr, refl, sym, ap, ◌∙◌, subst, arith, append_assoc}
use mathlib.Core.Bool.{true≢false}
use Rattle.std.specs.declared.cmp.Ordering.{Ordering}
use Rattle.std.specs.Ordering.{eq_by_cmp, is_eq}
use Rattle.std.specs.Cmp.{IsTotalOrder, Equal-is, tied_itself}
use Rattle.std.specs.BTreeMap.{is_at}
use Rattle.std.specs.BTreeSet.{BTreeSet, contains}
use Rattle.std.specs.FinSet as set
use Rattle.std.proofs.lemmas.Map.Made.{is_member-Decides}
use Rattle.std.proofs.lemmas.List.Elements.{Contains-push_cases, Contains-append_left, Contains-push}
use Rattle.fab_lemmas.specs.Adding.{Adds, AddsOnly, Among}
use Rattle.fab_lemmas.proofs.Tests.{or_true, or_right, or_left}
use Rattle.fab_lemmas.proofs.SeenSets.{tie_decides}

module _ {X : Type 0} where
  -- nothing has P
  pub adds_none : (P : X → Type 0) (f : X → Bool) → ((x : X) → ¬ P x) → Adds P f f
  adds_none P f none x = ((λ h. inl h), λ e. elim e [ inl h ↦ h | inr p ↦ absurd (none x p) ])

  -- the same, said otherwise
  pub adds_as : (P Q : X → Type 0) (f g : X → Bool) → ((x : X) → P x → Q x) → ((x : X) → Q x → P x) → Adds P f g → Adds Q f g
  adds_as P Q f g there back a x = (
    (λ h. elim ((a x).0 h) [ inl k ↦ inl k | inr p ↦ inr (there x p) ]),
    λ e. elim e [ inl k ↦ (a x).1 (inl k) | inr q ↦ (a x).1 (inr (back x q)) ],
  )

  -- what two steps add
  pub adds_both : (P Q : X → Type 0) (f g h : X → Bool) → Adds P f g → Adds Q g h → Adds (λ x. P x ⊎ Q x) f h
  adds_both P Q f g h a b x = (
    (λ k. elim ((b x).0 k) [ inl l ↦ elim ((a x).0 l) [ inl o ↦ inl o | inr p ↦ inr (inl p) ] | inr q ↦ inr (inr q) ]),
    λ e. elim e [ inl o ↦ (b x).1 (inl ((a x).1 (inl o))) | inr e ↦ elim e [ inl p ↦ (b x).1 (inl ((a x).1 (inr p))) | inr q ↦ (b x).1 (inr q) ] ],
  )

  -- what was added to nothing
  pub from_added : (P : X → Type 0) (g : X → Bool) → Adds P (λ _. false) g → ((x : X) → g x ≡ true → P x) × ((x : X) → P x → g x ≡ true)
  from_added P g adds = ((λ x h. elim ((adds x).0 h) [ inl f ↦ absurd (true≢false (sym f)) | inr p ↦ p ]), λ x p. (adds x).1 (inr p))

  -- ---- steps that stopped short
  pub only_from : (P : X → Type 0) (f g : X → Bool) → Adds P f g → AddsOnly P f g
  only_from P f g a x h = (a x).0 h

  pub only_none : (P : X → Type 0) (f g : X → Bool) → g ≡ f → AddsOnly P f g
  only_none P f g is x h = inl (ap (λ (u : X → Bool). u x) (sym is) ∙ h)

  pub only_as : (P Q : X → Type 0) (f g : X → Bool) → ((x : X) → P x → Q x) → AddsOnly P f g → AddsOnly Q f g
  only_as P Q f g there a x h = elim (a x h) [ inl k ↦ inl k | inr p ↦ inr (there x p) ]

  pub only_both : (P Q : X → Type 0) (f g h : X → Bool) → Adds P f g → AddsOnly Q g h → AddsOnly (λ x. P x ⊎ Q x) f h
  only_both P Q f g h a b x k = elim (b x k) [ inl l ↦ elim ((a x).0 l) [ inl o ↦ inl o | inr p ↦ inr (inl p) ] | inr q ↦ inr (inr q) ]

-- ---- one key more
module _ {X : Type 0} {R : X → X → Ordering} (o : IsTotalOrder R) (exact : set.IsAntisymmetric R) where
  -- in a finite set
  pub adds_one : (s t : set.FinSet R) (k : X) → t ≡ set.insert s k → Adds (λ x. x ≡ k) (set.contains s) (set.contains t)
  adds_one s t k made x = (
    (λ h. elim (or_true (eq_by_cmp R x k) (set.contains s x) (sym at ∙ h)) [ inl e ↦ inr (exact x k ((Equal-is (R x k)).0 e)) | inr h ↦ inl h ]),
    λ e. at ∙ elim e [ inl h ↦ or_right (eq_by_cmp R x k) (set.contains s x) h | inr is ↦ or_left (eq_by_cmp R x k) (set.contains s x) (ap (λ q. eq_by_cmp R q k) is ∙ ap is_eq (tied_itself o k)) ],
  )
    where
      at : set.contains t x ≡ (eq_by_cmp R x k || set.contains s x)
      at = ap (λ u. set.contains u x) made ∙ set.contains-insert o s k x

  -- in a tree
  pub tree_adds_one : (s t : BTreeSet X) (k : X) → ((q : X) → contains R t q ≡ cond (is_at (R k) q) true (contains R s q)) → Adds (λ x. x ≡ k) (contains R s) (contains R t)
  tree_adds_one s t k updates x = (
    (λ h. case (is_at (R k) x) refl (sym (updates x) ∙ h)),
    λ e. updates x ∙ elim e [
      | inl h ↦ still (is_at (R k) x) h
      | inr is ↦ ap (λ q. cond (is_at (R k) q) true (contains R s x)) is ∙ ap (λ b. cond b true (contains R s x)) (ap is_eq (tied_itself o k))
    ],
  )
    where
      case : (b : Bool) → is_at (R k) x ≡ b → cond b true (contains R s x) ≡ true → (contains R s x ≡ true) ⊎ (x ≡ k)
      case true is h = inr (sym (exact k x ((Equal-is (R k x)).0 is)))
      case false is h = inl h

      -- what was there stays
      still : (b : Bool) → contains R s x ≡ true → cond b true (contains R s x) ≡ true
      still true h = refl
      still false h = h

-- ---- over the items of a list, or the keys of a set
module _ {K X : Type 0} (Q : K → X → Type 0) where
  -- what some item so far gives
  abbrev pub Before : List K → X → Type 0
  Before before x = (k : K) × Contains before k × Q k x

  pub before_none : (f : X → Bool) → Adds (Before []) f f
  before_none f = adds_none (Before []) f (λ x h. omega (arith, h.1.1))

  -- one item more
  pub before_more : (before : List K) (k : K) (f g h : X → Bool) → Adds (Before before) f g → Adds (Q k) g h → Adds (Before (before ++ k ∷ [])) f h
  before_more before k f g h a b =
      adds_as (λ x. Before before x ⊎ Q k x) (Before (before ++ k ∷ [])) f h
      (λ x e. elim e [ inl w ↦ (w.0, Contains-append_left before _ w.0 w.1, w.2) | inr q ↦ (k, Contains-push before k, q) ])
      (λ x w. elim (Contains-push_cases before k w.0 w.1) [ inl i ↦ inl (w.0, i, w.2) | inr e ↦ inr (subst (λ y. Q y x) (sym e) w.2) ])
      (adds_both (Before before) (Q k) f g h a b)

  module _ {R : K → K → Ordering} (o : IsTotalOrder R) (exact : set.IsAntisymmetric R) (s : BTreeSet K) where
    decides : (k : K) → (contains R s k ≡ true → Contains s.keys k) × (Contains s.keys k → contains R s k ≡ true)
    decides k = is_member-Decides (tie_decides o exact) s.keys k

    -- at the end of a walk through the set
    pub before_all : (before : List K) (f g : X → Bool) → before ≡ s.keys → Adds (Before before) f g → Adds (Among R s Q) f g
    before_all before f g is a =
        adds_as (Before before) (Among R s Q) f g
        (λ x w. (w.0, (decides w.0).1 (subst (λ ks. Contains ks w.0) is w.1), w.2))
        (λ x w. (w.0, subst (λ ks. Contains ks w.0) (sym is) ((decides w.0).0 w.1), w.2))
        a

    -- where a step stops, nothing was added but what keys give
    pub before_stop : (before it more : List K) (k : K) (f g h : X → Bool) → s.keys ≡ before ++ it → it ≡ k ∷ more → Adds (Before before) f g → AddsOnly (Q k) g h → AddsOnly (Among R s Q) f h
    before_stop before it more k f g h so_far next a b =
        only_as (λ x. Before before x ⊎ Q k x) (Among R s Q) f h
        (λ x e. elim e [
          | inl w ↦ (w.0, (decides w.0).1 (subst (λ ks. Contains ks w.0) (sym so_far) (Contains-append_left before it w.0 w.1)), w.2)
          | inr q ↦ (k, (decides k).1 (subst (λ ks. Contains ks k) (sym whole) (Contains-append_left (before ++ k ∷ []) more k (Contains-push before k))), q)
        ])
        (only_both (Before before) (Q k) f g h a b)
      where
        whole : s.keys ≡ (before ++ k ∷ []) ++ more
        whole = so_far ∙ ap (λ y. before ++ y) next ∙ sym (append_assoc before (k ∷ []) more)
