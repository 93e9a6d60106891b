-- The paths of some pairs, before a step and after it.
use Rattle.std.proofs.Common.{◌≡◌, List, [], true, false, Contains, Option, None, Some, inl, inr, refl, sym, ap, ◌∙◌, subst}
use mathlib.Core.Bool.{true≢false}
use Rattle.std.specs.Borrow.{Bor}
use Rattle.std.specs.Option.{option_copied}
use Rattle.std.specs.BTreeMap as tree
use Rattle.std.specs.BTreeMap.{BTreeMap}
use Rattle.std.specs.BTreeSet.{BTreeSet, IsOrdered}
use Rattle.std.proofs.lemmas.Map.Views.{btree_set_contains_iff}
use Rattle.fab_lemmas.specs.MapsOfSets.{in_tree, tree_has}
use Rattle.fab_reach_base.specs.Records.{Records}
use Rattle.fab_reach_base.specs.Orders.{path_cmp, Has, IsListOf}
use Rattle.fab_reach_base.specs.Reach.{PathOf}
use Rattle.fab_reach_base.specs.Adding.{Adds}
use Rattle.fab_reach.specs.Inner.Asking.{in_rows, IsLater, IsEarlier}
use Rattle.fab_reach_base.specs.Books.{IsGained, IsDelta}
use Rattle.fab_reach_books.specs.Pairs.{Pair, pair_cmp, AreChanged}
use Rattle.fab_reach_index.specs.Indexes.{IsTreeOf, IsRowOf}
use Rattle.fab_reach_base.specs.declared.path.Path.{Path}
use Rattle.fab_reach_base.proofs.Adding.{Before, adds_as}
use Rattle.fab_reach_base.proofs.Books.{list_as}
use Rattle.fab_reach_base.proofs.Gathering.{filled, listed_all, reaches}
use Rattle.fab_reach_base.specs.PathOrder.{path_total, path_exact}

module _ (rows : Option (Bor (BTreeSet Path))) (these : List Path) where
  -- a listed path, if it is new
  abbrev pub IfNew : Path → Path → Type 0
  IfNew k x = (x ≡ k) × ¬ (in_rows rows x ≡ true)

  pub is_new : (k : Path) (old new : Path → Type 0) → in_rows rows k ≡ false → Adds (λ x. x ≡ k) old new → Adds (IfNew k) old new
  is_new k old new absent = adds_as (λ x. x ≡ k) (IfNew k) old new (λ x e. (e, λ h. true≢false (sym h ∙ ap (in_rows rows) e ∙ absent))) (λ x w. w.0)

  pub is_known : (k : Path) → in_rows rows k ≡ true → (x : Path) → ¬ IfNew k x
  is_known k there x w = w.1 (ap (in_rows rows) w.0 ∙ there)

  -- a row, if it is not listed
  abbrev pub IfGone : Path → Path → Type 0
  IfGone k x = (x ≡ k) × ¬ Contains these x

  pub is_gone : (k : Path) (old new : Path → Type 0) → ¬ Contains these k → Adds (λ x. x ≡ k) old new → Adds (IfGone k) old new
  is_gone k old new absent = adds_as (λ x. x ≡ k) (IfGone k) old new (λ x e. (e, λ h. absent (subst (Contains these) e h))) (λ x w. w.0)

  pub is_listed : (k : Path) → Contains these k → (x : Path) → ¬ IfGone k x
  is_listed k there x w = w.1 (subst (Contains these) (sym w.0) there)

pub all_gone : (s : Bor (BTreeSet Path)) (these ks : List Path) (old new : Path → Type 0) → ks ≡ s.now.keys → Adds (Before (IfGone (Some s) these) ks) old new → Adds (IsEarlier (Some s) these) old new
all_gone s these ks old new is = adds_as (Before (IfGone (Some s) these) ks) (IsEarlier (Some s) these) old new
    (λ x w. ((btree_set_contains_iff path_total path_exact s.now x).1 (subst (Contains s.now.keys) (sym w.2.0) (subst (λ ys. Contains ys w.0) is w.1)), w.2.1))
    (λ x w. (x, subst (λ ys. Contains ys x) (sym is) ((btree_set_contains_iff path_total path_exact s.now x).0 w.0), (refl, w.1)))

-- ---- over all pairs

module _ (v : Records) (rows : BTreeMap Pair (BTreeSet Path)) where
  abbrev pub Rowed : Pair → Path → Type 0
  Rowed p x = tree_has pair_cmp path_cmp rows p x ≡ true

  -- a pair gains the path
  abbrev pub Gains : Pair → Path → Type 0
  Gains p x = PathOf v p.0 p.1 x × ¬ Rowed p x

  -- a pair loses it
  abbrev pub Loses : Pair → Path → Type 0
  Loses p x = Rowed p x × ¬ PathOf v p.0 p.1 x

  looked : (p : Pair) (o : Option (Bor (BTreeSet Path))) → option_copied o ≡ tree.get pair_cmp rows p → (x : Path) → in_rows o x ≡ tree_has pair_cmp path_cmp rows p x
  looked p None is x = ap (λ o. in_tree path_cmp o x) is
  looked p (Some s) is x = ap (λ o. in_tree path_cmp o x) is

  pub pair_gains : (p : Pair) (o : Option (Bor (BTreeSet Path))) (these : List Path) (old new : Path → Type 0) → option_copied o ≡ tree.get pair_cmp rows p → IsListOf (PathOf v p.0 p.1) these → Adds (IsLater these o) old new → Adds (Gains p) old new
  pair_gains p o these old new is l = adds_as (IsLater these o) (Gains p) old new (λ x w. (l.sound x w.0, λ r. w.1 (looked p o is x ∙ r))) (λ x w. (l.complete x w.0, λ r. w.1 (sym (looked p o is x) ∙ r)))

  pub pair_loses : (p : Pair) (o : Option (Bor (BTreeSet Path))) (these : List Path) (old new : Path → Type 0) → option_copied o ≡ tree.get pair_cmp rows p → IsListOf (PathOf v p.0 p.1) these → Adds (IsEarlier o these) old new → Adds (Loses p) old new
  pair_loses p o these old new is l = adds_as (IsEarlier o these) (Loses p) old new (λ x w. (sym (looked p o is x) ∙ w.0, λ r. w.1 (l.complete x r))) (λ x w. (looked p o is x ∙ w.0, λ r. w.1 (l.sound x r)))

  module _ (w : Records) (are : IsTreeOf pair_cmp path_cmp (IsRowOf w) rows) (pairs : List Pair) (changed : AreChanged w v pairs) where
    gained : (x : Path) → (Before Gains pairs x → IsGained w v x) × (IsGained w v x → Before Gains pairs x)
    gained x = (
      (λ h. let p = h.0 in record {
        now = reaches v p.0 p.1 x h.2.0;
        before = λ r. h.2.1 ((are p x).1 (subst (λ y. PathOf w p.0 y x) h.2.0.target (subst (λ y. PathOf w y x.target x) h.2.0.initiator r)));
      }),
      λ h. ((x.initiator, x.target), changed.all x.initiator x.target (x, inr (h.now, h.before)), (h.now, λ r. h.before ((are (x.initiator, x.target) x).0 r))),
    )

    lost : (x : Path) → (Before Loses pairs x → IsGained v w x) × (IsGained v w x → Before Loses pairs x)
    lost x = (
      (λ h.
          let p = h.0 in
          let o : PathOf w p.0 p.1 x = (are p x).0 h.2.0 in
          record { now = reaches w p.0 p.1 x o; before = λ r. h.2.1 (subst (λ y. PathOf v p.0 y x) o.target (subst (λ y. PathOf v y x.target x) o.initiator r)) }),
      λ h. ((x.initiator, x.target), changed.all x.initiator x.target (x, inl (h.now, h.before)), ((are (x.initiator, x.target) x).1 h.now, h.before)),
    )

    pub delta_is : (s t : BTreeSet Path) (u z : BTreeSet Path) (xs ys : List Path) → s.keys ≡ [] → t.keys ≡ [] → Adds (Before Gains pairs) (Has s) (Has u) → Adds (Before Loses pairs) (Has t) (Has z)
        → IsOrdered path_cmp u → IsOrdered path_cmp z → xs ≡ u.keys → ys ≡ z.keys → IsDelta w v xs ys
    delta_is s t u z xs ys no_s no_t a b ou oz is_u is_z = record {
      gains = list_as (Before Gains pairs) (IsGained w v) xs (λ x. (gained x).0) (λ x. (gained x).1) (listed_all (Before Gains pairs) u xs ou is_u (filled (Before Gains pairs) s u no_s a));
      loses = list_as (Before Loses pairs) (IsGained v w) ys (λ x. (lost x).0) (λ x. (lost x).1) (listed_all (Before Loses pairs) z ys oz is_z (filled (Before Loses pairs) t z no_t b));
    }
