-- The paths of a host, from an index.
use Rattle.std.proofs.Common.{ℕ, ◌≡◌, List, true, Contains, Option, None, Some, refl, sym, ap, ◌∙◌, subst, arith}
use mathlib.Core.Bool.{true≢false}
use Rattle.std.specs.Ordering.{nat_cmp}
use Rattle.std.specs.Cmp.{nat_cmp_total}
use Rattle.std.specs.declared.ops.Bound.{Bound}
use Rattle.std.specs.FinSet as set
use Rattle.std.specs.BTreeMap as tree
use Rattle.std.specs.BTreeMap.{BTreeMap, IsOrdered, is_at}
use Rattle.std.specs.BTreeMap.Range.{IsInRange, range_contains, entries_between}
use Rattle.std.specs.BTreeSet.{BTreeSet}
use Rattle.std.proofs.lemmas.Bool.Decides.{nat_tests}
use Rattle.std.proofs.lemmas.List.Elements.{All-contains, All-filter}
use Rattle.std.proofs.lemmas.Map.Entries.{lookup-filter-keys}
use Rattle.std.proofs.lemmas.Map.Views.{All-found, Contains-from_lookup, btree_set_contains_iff, range_contains-from_IsInRange, tells_apart}
use Rattle.fab_lemmas.specs.MapsOfSets.{in_tree}
use Rattle.fab_names.specs.Orders.{name_cmp}
use Rattle.fab_zoning.specs.Edits.{IsIn}
use Rattle.fab_reach_base.specs.Adding.{Adds}
use Rattle.fab_reach_base.specs.Orders.{Has, path_cmp}
use Rattle.fab_reach_base.specs.Reach.{IsPort, IsInitiator, ReachesFrom}
use Rattle.fab_reach_base.specs.Records.{Records}
use Rattle.fab_reach_base.specs.declared.path.Path.{Path}
use Rattle.fab_reach_base.proofs.Adding.{Before, adds_as, adds_none}
use Rattle.fab_reach_base.proofs.Gathering.{reaches}
use Rattle.fab_reach_base.specs.PathOrder.{path_total, path_exact}
use Rattle.fab_reach_base.proofs.Same.{same_some}
use Rattle.fab_reach_books.proofs.Staying.{holder_known}
use Rattle.fab_reach_books.specs.KeyLaws.{pair_total, pair_exact}
use Rattle.fab_reach_books.specs.Pairs.{Pair, pair_cmp}
use Rattle.fab_reach_index.specs.Indexes.{IsIndexOf}
use Rattle.fab_reach_index.specs.Inner.Holding.{Held}
use Rattle.fab_reach_index.specs.declared.index.Index.{Index}
use Rattle.fab_reach.specs.Inner.Owned.{IsStartOf, IsEndOf, IsFromAt, IsFrom, IsOwned, IsOwnedBy}

pub all_paths : (paths : BTreeSet Path) (ks : List Path) (old new : Path → Type 0) → ks ≡ paths.keys → Adds (Before (λ k x. x ≡ k) ks) old new → Adds (Has paths) old new
all_paths paths ks old new is = adds_as (Before (λ k x. x ≡ k) ks) (Has paths) old new
    (λ x h. (btree_set_contains_iff path_total path_exact paths x).1 (subst (λ ys. Contains ys x) is (subst (Contains ks) (sym h.2) h.1)))
    (λ x h. (x, subst (λ ys. Contains ys x) (sym is) ((btree_set_contains_iff path_total path_exact paths x).0 h), refl))

module _ (p : ℕ) where
  -- the pairs of a port are between its bounds
  in_range : (lo hi : Bound Pair) (q : ℕ) → IsStartOf p lo → IsEndOf p hi → IsInRange pair_cmp lo hi (p, q)
  in_range lo hi q l h = grind (arith, nat_tests)

  module _ (rows : BTreeMap Pair (BTreeSet Path)) (lo hi : Bound Pair) where
    -- what a look-up finds at a pair of the port is in the range
    ranged : (q : ℕ) (s : BTreeSet Path) → IsStartOf p lo → IsEndOf p hi → tree.get pair_cmp rows (p, q) ≡ Some s → Contains (entries_between pair_cmp lo hi rows.entries) ((p, q), s)
    ranged q s l h at = Contains-from_lookup (tells_apart pair_exact) (p, q) s (entries_between pair_cmp lo hi rows.entries)
        (lookup-filter-keys (is_at (pair_cmp (p, q))) (range_contains pair_cmp lo hi) true
        (λ k is. subst (λ e. range_contains pair_cmp lo hi e ≡ true) (tells_apart pair_exact (p, q) k is) (range_contains-from_IsInRange pair_total lo hi (p, q) (in_range lo hi q l h))) rows.entries ∙ at)

    -- what is in the range a look-up finds
    looked_up : (e : Pair × BTreeSet Path) → IsOrdered pair_cmp rows → Contains (entries_between pair_cmp lo hi rows.entries) e → tree.get pair_cmp rows e.0 ≡ Some e.1
    looked_up e ordered = All-contains (λ d. tree.get pair_cmp rows d.0 ≡ Some d.1) (entries_between pair_cmp lo hi rows.entries) e
        (All-filter (λ d. range_contains pair_cmp lo hi d.0) (λ d. tree.get pair_cmp rows d.0 ≡ Some d.1) rows.entries (All-found pair_total rows ordered))

    pub all_from : (es : List (Pair × BTreeSet Path)) (old new : Path → Type 0) → IsStartOf p lo → IsEndOf p hi → IsOrdered pair_cmp rows → es ≡ entries_between pair_cmp lo hi rows.entries
        → Adds (Before (IsFromAt p) es) old new → Adds (IsFrom rows p) old new
    all_from es old new l h ordered is = adds_as (Before (IsFromAt p) es) (IsFrom rows p) old new
        (λ x k. by_entry x k.0 k.2.0 (looked_up k.0 ordered (subst (λ ys. Contains ys k.0) is k.1)) k.2.1)
        (λ x k. by_pair x k.0 k.1 (tree.get pair_cmp rows (p, k.0)) refl)
      where
        by_entry : (x : Path) (e : Pair × BTreeSet Path) → e.0.0 ≡ p → tree.get pair_cmp rows e.0 ≡ Some e.1 → Has e.1 x → IsFrom rows p x
        by_entry x e here at has = (e.0.1, subst (λ i. IsIn pair_cmp path_cmp rows ((i, e.0.1), x)) here (ap (λ o. in_tree path_cmp o x) at ∙ has))

        by_pair : (x : Path) (q : ℕ) → IsIn pair_cmp path_cmp rows ((p, q), x) → (o : Option (BTreeSet Path)) → tree.get pair_cmp rows (p, q) ≡ o → Before (IsFromAt p) es x
        by_pair x q there None at = absurd (true≢false (sym there ∙ ap (λ o. in_tree path_cmp o x) at))
        by_pair x q there (Some s) at = (((p, q), s), subst (λ ys. Contains ys ((p, q), s)) (sym is) (ranged q s l h at), (refl, sym (ap (λ o. in_tree path_cmp o x) at) ∙ there))

-- the paths of each port are those of all ports
pub all_own : (ports : BTreeSet ℕ) (rows : BTreeMap Pair (BTreeSet Path)) (ks : List ℕ) (old new : Path → Type 0) → ks ≡ ports.keys → Adds (Before (IsFrom rows) ks) old new → Adds (IsOwned ports rows) old new
all_own ports rows ks old new is = adds_as (Before (IsFrom rows) ks) (IsOwned ports rows) old new
    (λ x h. ((h.0, h.2.0), (btree_set_contains_iff nat_cmp_total set.nat_cmp-IsAntisymmetric ports h.0).1 (subst (λ ys. Contains ys h.0) is h.1), h.2.1))
    (λ x h. (h.0.0, subst (λ ys. Contains ys h.0.0) (sym is) ((btree_set_contains_iff nat_cmp_total set.nat_cmp-IsAntisymmetric ports h.0.0).0 h.1), (h.0.1, h.2)))

module _ (held : Held) (rows : BTreeMap Pair (BTreeSet Path)) (h : List ℕ) where
  pub holder_owns : (ports : BTreeSet ℕ) (old new : Path → Type 0) → tree.get name_cmp held h ≡ Some ports → Adds (IsOwned ports rows) old new → Adds (IsOwnedBy held rows h) old new
  holder_owns ports old new at = adds_as (IsOwned ports rows) (IsOwnedBy held rows h) old new
      (λ x k. (k.0, ap (λ o. in_tree nat_cmp o k.0.0) at ∙ k.1, k.2)) (λ x k. (k.0, sym (ap (λ o. in_tree nat_cmp o k.0.0) at) ∙ k.1, k.2))

  pub nobody_owns : (old : Path → Type 0) → tree.get name_cmp held h ≡ None → Adds (IsOwnedBy held rows h) old old
  nobody_owns old none = adds_none (IsOwnedBy held rows h) old (λ x k. true≢false (sym k.1 ∙ ap (λ o. in_tree nat_cmp o k.0.0) none))

pub owned_are : {A : Type 0} (w : Records) (m : Index A) → IsIndexOf w m → (h : List ℕ) (x : Path) → (IsOwnedBy m.held m.rows h x → ReachesFrom w h x) × (ReachesFrom w h x → IsOwnedBy m.held m.rows h x)
owned_are w m are h x = (
  (λ k.
      let e = k.0 in
      let path = (are.rows e x).0 k.2 in
      let held = (are.held h e.0).0 k.1 in
      let same : path.host ≡ h = same_some path.meets.from.held (sym (holder_known w.inventory.ports e.0 path.from path.from_is) ∙ held) in
      (reaches w e.0 e.1 x path, (path.from, subst (λ p. IsPort w p path.from) (sym path.initiator) path.from_is, subst (IsInitiator w path.from) same path.meets.from))),
  λ r.
      let i = r.1 in
      ((x.initiator, x.target), (are.held h x.initiator).1 (holder_known w.inventory.ports x.initiator i.0 i.1 ∙ i.2.held), (are.rows (x.initiator, x.target) x).1 r.0),
)
