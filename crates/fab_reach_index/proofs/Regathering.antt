-- The sets of a map, once some items have gone and others have come.
use Rattle.std.proofs.Common.{◌≡◌, List, [], Bool, true, false, cond, Contains, Option, None, Some, MatchOption, inl, inr, refl, sym, ap, ◌∙◌, subst}
use mathlib.Core.Bool.{true≢false}
use Rattle.std.specs.declared.cmp.Ordering.{Ordering}
use Rattle.std.specs.Cmp.{IsTotalOrder, Equal-is}
use Rattle.std.specs.BTreeMap.{BTreeMap, get, is_at}
use Rattle.std.specs.BTreeSet.{BTreeSet}
use Rattle.std.specs.Map.{lookup}
use Rattle.std.specs.Option.{IsSome}
use Rattle.std.specs.FinSet as set
use Rattle.std.proofs.lemmas.Map.Views.{btree_set_contains_iff}
use Rattle.fab_lemmas.specs.MapsOfSets.{in_tree, tree_has}
use Rattle.fab_reach_base.specs.Adding.{Adds}
use Rattle.fab_reach_base.proofs.Adding.{Before, adds_as, adds_none}
use Rattle.fab_reach_base.proofs.Sets.{none_in}
use Rattle.fab_reach_index.specs.Inner.Regathering.{HasIn, IsLeftAt, IsLeft, AreLeft}
use Rattle.fab_reach_books.specs.Renewed.{set_or, patched}
use Rattle.fab_reach_index.specs.Patches.{HasRoomFor}

module _ {K : Type 0} (R : K → K → Ordering) (gone : K → Bool) where
  -- the item, unless it is gone
  abbrev pub IfLeft : K → K → Type 0
  IfLeft k x = (x ≡ k) × (gone x ≡ false)

  pub item_left : (k : K) (old new : K → Type 0) → gone k ≡ false → Adds (λ x. x ≡ k) old new → Adds (IfLeft k) old new
  item_left k old new is = adds_as (λ x. x ≡ k) (IfLeft k) old new (λ x e. (e, ap gone e ∙ is)) (λ x h. h.0)

  pub item_gone : (k : K) (old : K → Type 0) → gone k ≡ true → Adds (IfLeft k) old old
  item_gone k old is = adds_none (IfLeft k) old (λ x h. true≢false (sym (ap gone h.0 ∙ is) ∙ h.1))

  module _ (o : IsTotalOrder R) (exact : set.IsAntisymmetric R) where
    pub items_left : (s : BTreeSet K) (ks : List K) (old new : K → Type 0) → ks ≡ s.keys → Adds (Before IfLeft ks) old new → Adds (λ x. HasIn R s x × (gone x ≡ false)) old new
    items_left s ks old new is = adds_as (Before IfLeft ks) (λ x. HasIn R s x × (gone x ≡ false)) old new
        (λ x h. (subst (HasIn R s) (sym h.2.0) ((btree_set_contains_iff o exact s h.0).1 (subst (λ xs. Contains xs h.0) is h.1)), h.2.1))
        (λ x h. (x, subst (λ xs. Contains xs x) (sym is) ((btree_set_contains_iff o exact s x).0 h.0), (refl, h.1)))

module _ {Q K : Type 0} (O : Q → Q → Ordering) (R : K → K → Ordering) (old gone come : BTreeMap Q (BTreeSet K)) where
  -- the set at a key, in two steps from nothing
  pub set_left : IsTotalOrder R → set.IsAntisymmetric R → (q : Q) (was left now : Option (BTreeSet K)) → was ≡ get O old q → left ≡ get O gone q → now ≡ get O come q → (s t u : BTreeSet K) → s.keys ≡ []
      → Adds (λ x. (in_tree R was x ≡ true) × (in_tree R left x ≡ false)) (HasIn R s) (HasIn R t) → Adds (λ x. (in_tree R now x ≡ true) × (in_tree R None x ≡ false)) (HasIn R t) (HasIn R u) → IsLeft O R old gone come q u
  set_left o exact q was left now is_was is_left is_now s t u none a b k = (
    (λ h. elim (b.sound k h) [
      | inl m ↦ elim (a.sound k m) [ inl z ↦ absurd (none_in o exact s none k z) | inr p ↦ inl (sym (ap (λ f. in_tree R f k) is_was) ∙ p.0, sym (ap (λ f. in_tree R f k) is_left) ∙ p.1) ]
      | inr p ↦ inr (sym (ap (λ f. in_tree R f k) is_now) ∙ p.0)
    ]),
    λ e. elim e [
      | inl p ↦ b.kept k (a.there k (ap (λ f. in_tree R f k) is_was ∙ p.0, ap (λ f. in_tree R f k) is_left ∙ p.1))
      | inr p ↦ b.there k (ap (λ f. in_tree R f k) is_now ∙ p, refl)
    ],
  )

  -- one set more
  pub left_more : set.IsAntisymmetric O → (key : Q) (s : BTreeSet K) (t u : BTreeMap Q (BTreeSet K)) → IsLeft O R old gone come key s → ((q : Q) → get O u q ≡ cond (is_at (O key) q) (Some s) (get O t q)) → AreLeft O R old gone come t → AreLeft O R old gone come u
  left_more exact key s t u here updates are q = subst (λ f. MatchOption f (Unit {0}) (IsLeft O R old gone come q)) (sym (updates q)) (by (is_at (O key) q) refl)
    where
      by : (b : Bool) → is_at (O key) q ≡ b → MatchOption (cond b (Some s) (get O t q)) (Unit {0}) (IsLeft O R old gone come q)
      by true is = subst (λ p. IsLeft O R old gone come p s) (exact key q ((Equal-is (O key q)).0 is)) here
      by false is = are q

  -- what was there stays there
  pub left_stays : (key : Q) (s : BTreeSet K) (t u : BTreeMap Q (BTreeSet K)) → ((q : Q) → get O u q ≡ cond (is_at (O key) q) (Some s) (get O t q)) → (q : Q) → IsSome (get O t q) → IsSome (get O u q)
  left_stays key s t u updates q h = subst IsSome (sym (updates q)) (by (is_at (O key) q))
    where
      by : (b : Bool) → IsSome (cond b (Some s) (get O t q))
      by true = refl
      by false = h

  pub left_none : (t : BTreeMap Q (BTreeSet K)) → t.entries ≡ [] → AreLeft O R old gone come t
  left_none t none q = subst (λ f. MatchOption f (Unit {0}) (IsLeft O R old gone come q)) (sym (ap (lookup (is_at (O q))) none)) tt

  -- where both have places, the new sets are right, and the others as they were
  pub all_left : (t : BTreeMap Q (BTreeSet K)) → AreLeft O R old gone come t → HasRoomFor O gone t → HasRoomFor O come t → (q : Q) (k : K) → (patched O R t old q k ≡ true → IsLeftAt O R old gone come q k) × (IsLeftAt O R old gone come q k → patched O R t old q k ≡ true)
  all_left t are room_gone room_come q k = by (get O t q) refl (are q)
    where
      absent : (m : BTreeMap Q (BTreeSet K)) → HasRoomFor O m t → get O t q ≡ None → tree_has O R m q k ≡ false
      absent m room none = case (get O m q) refl
        where
          case : (f : Option (BTreeSet K)) → get O m q ≡ f → in_tree R f k ≡ false
          case None at = refl
          case (Some s) at = let h : IsSome (get O t q) = room q (subst IsSome (sym at) refl) in absurd (true≢false (sym (subst IsSome none h)))

      by : (f : Option (BTreeSet K)) → get O t q ≡ f → MatchOption f (Unit {0}) (IsLeft O R old gone come q) → (set_or R f (tree_has O R old q k) k ≡ true → IsLeftAt O R old gone come q k) × (IsLeftAt O R old gone come q k → set_or R f (tree_has O R old q k) k ≡ true)
      by None none h = (
        (λ x. inl (x, absent gone room_gone none)),
        λ e. elim e [ inl p ↦ p.0 | inr c ↦ absurd (true≢false (sym c ∙ absent come room_come none)) ],
      )
      by (Some s) at h = h k
