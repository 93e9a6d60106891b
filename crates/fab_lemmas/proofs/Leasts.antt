-- The first by an order, step by step.
use Rattle.std.proofs.Common.{◌≡◌, List, [], ◌∷◌, ◌++◌, Bool, Option, None, Some, cond, true, false, Contains, ◌⊎◌, inl, inr, refl, sym, ap, ◌∙◌, subst, arith}
use Rattle.std.specs.declared.cmp.Ordering.{Ordering}
use Rattle.std.specs.declared.cmp.Ordering.TheVariants.{Less, Equal, Greater}
use Rattle.std.specs.Ordering.{ordering_reverse, is_gt, is_lt}
use Rattle.std.specs.Cmp.{IsTotalOrder}
use Rattle.std.specs.BTreeSet.{BTreeSet, contains}
use Rattle.std.specs.FinSet as set
use Rattle.std.proofs.lemmas.Cmp.{upto}
use Rattle.std.proofs.lemmas.List.Elements.{Contains-push_cases, Contains-append_left, Contains-push}
use Rattle.std.proofs.lemmas.Map.Made.{is_member-Decides}
use Rattle.fab_lemmas.specs.Firsts.{IsFirstOf, lesser}
use Rattle.fab_lemmas.specs.Adding.{Among}
use Rattle.fab_lemmas.proofs.Adding.{Before}
use Rattle.fab_lemmas.proofs.SeenSets.{tie_decides}

module _ {X : Type 0} (R : X → X → Ordering) where
  -- the same, said otherwise
  pub least_as : (P Q : X → Type 0) (o : Option X) → ((x : X) → P x → Q x) → ((x : X) → Q x → P x) → IsFirstOf R P o → IsFirstOf R Q o
  least_as P Q None there back h = λ x q. h x (back x q)
  least_as P Q (Some m) there back h = (there m h.0, λ x q. h.1 x (back x q))

  -- one that is less, and one that is not
  less_upto : (a b : X) → is_lt (R a b) ≡ true → is_gt (R a b) ≡ false
  less_upto a b h = by (R a b) h
    where
      by : (r : Ordering) → is_lt r ≡ true → is_gt r ≡ false
      by Less e = refl
      by Equal e = refl
      by Greater e = absurd cc

module _ {X : Type 0} {R : X → X → Ordering} (total : IsTotalOrder R) where
  not_less_upto : (a b : X) → is_lt (R a b) ≡ false → is_gt (R b a) ≡ false
  not_less_upto a b h = ap is_gt (total.antisymm b a) ∙ by (R a b) h
    where
      by : (r : Ordering) → is_lt r ≡ false → is_gt (ordering_reverse r) ≡ false
      by Less e = absurd cc
      by Equal e = refl
      by Greater e = refl

  -- the lesser of the firsts of two
  pub least_both : (P Q : X → Type 0) (a b : Option X) → IsFirstOf R P a → IsFirstOf R Q b → IsFirstOf R (λ x. P x ⊎ Q x) (lesser R a b)
  least_both P Q None None p q = λ x e. elim e [ inl h ↦ p x h | inr h ↦ q x h ]
  least_both P Q None (Some y) p q = (inr q.0, λ x e. elim e [ inl h ↦ absurd (p x h) | inr h ↦ q.1 x h ])
  least_both P Q (Some x) None p q = (inl p.0, λ y e. elim e [ inl h ↦ p.1 y h | inr h ↦ absurd (q y h) ])
  least_both P Q (Some x) (Some y) p q = by (is_lt (R y x)) refl
    where
      by : (c : Bool) → is_lt (R y x) ≡ c → IsFirstOf R (λ z. P z ⊎ Q z) (Some (cond c y x))
      by true is = (inr q.0, λ z e. elim e [ inl h ↦ upto total y x z (less_upto R y x is) (p.1 z h) | inr h ↦ q.1 z h ])
      by false is = (inl p.0, λ z e. elim e [ inl h ↦ p.1 z h | inr h ↦ upto total x y z (not_less_upto y x is) (q.1 z h) ])

  -- ---- over the items of a list, or the keys of a set
  module _ {K : Type 0} (Q : K → X → Type 0) where
    pub least_none : IsFirstOf R (Before Q []) None
    least_none x h = omega (arith, h.1.1)

    -- one item more
    pub least_more : (before : List K) (k : K) (a b : Option X) → IsFirstOf R (Before Q before) a → IsFirstOf R (Q k) b → IsFirstOf R (Before Q (before ++ k ∷ [])) (lesser R a b)
    least_more before k a b p q =
        least_as R (λ x. Before Q before x ⊎ Q k x) (Before Q (before ++ k ∷ [])) (lesser R a b)
        (λ x e. elim e [ inl w ↦ (w.0, Contains-append_left before _ w.0 w.1, w.2) | inr h ↦ (k, Contains-push before k, h) ])
        (λ x w. elim (Contains-push_cases before k w.0 w.1) [ inl i ↦ inl (w.0, i, w.2) | inr e ↦ inr (subst (λ y. Q y x) (sym e) w.2) ])
        (least_both (Before Q before) (Q k) a b p q)

    -- at the end of a walk through a set
    pub least_all : {S : K → K → Ordering} → IsTotalOrder S → set.IsAntisymmetric S → (s : BTreeSet K) (before : List K) (a : Option X) → before ≡ s.keys → IsFirstOf R (Before Q before) a → IsFirstOf R (Among S s Q) a
    least_all {S = S} o exact s before a is =
        least_as R (Before Q before) (Among S s Q) a
        (λ x w. (w.0, (decides w.0).1 (subst (λ ks. Contains ks w.0) is w.1), w.2))
        (λ x w. (w.0, subst (λ ks. Contains ks w.0) (sym is) ((decides w.0).0 w.1), w.2))
      where
        decides : (k : K) → (contains S s k ≡ true → Contains s.keys k) × (Contains s.keys k → contains S s k ≡ true)
        decides k = is_member-Decides (tie_decides o exact) s.keys k
