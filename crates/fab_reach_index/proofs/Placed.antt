-- The maps of an index, from the rows of a world.
use Rattle.std.proofs.Common.{ℕ, ◌≡◌, List, [], true, false, Contains, Option, None, Some, refl, sym, ap, ◌∙◌, subst}
use mathlib.Core.Bool.{true≢false}
use Rattle.std.specs.declared.cmp.Ordering.{Ordering}
use Rattle.std.specs.Ordering.{nat_cmp}
use Rattle.std.specs.Cmp.{IsTotalOrder, nat_cmp_total}
use Rattle.std.specs.Option.{option_and_then}
use Rattle.std.specs.BTreeMap.{BTreeMap, is_at}
use Rattle.std.specs.BTreeSet.{BTreeSet, contains}
use Rattle.std.specs.Map.{lookup}
use Rattle.std.specs.FinMap as map
use Rattle.std.specs.FinSet as set
use Rattle.std.proofs.lemmas.Map.Views.{btree_set_contains_iff}
use Rattle.fab_names.specs.Orders.{name_cmp}
use Rattle.fab_names.proofs.OrderLaws.{name_total, name_exact}
use Rattle.fab_inventory.specs.declared.port.Known.{Known}
use Rattle.fab_lemmas.specs.MapsOfSets.{in_tree}
use Rattle.fab_lemmas.proofs.SeenEntries.{entry_decides}
use Rattle.fab_lemmas.proofs.SeenSets.{listed_decides}
use Rattle.fab_zoning.specs.Edits.{IsIn}
use Rattle.fab_mapping_base.specs.Groups.{StorageGroupRows}
use Rattle.fab_reach_base.specs.Adding.{Adds}
use Rattle.fab_reach_base.specs.Orders.{Has}
use Rattle.fab_reach_base.specs.Books.{AreReached}
use Rattle.fab_reach_base.specs.Reach.{PathOf}
use Rattle.fab_reach_base.specs.Records.{Records}
use Rattle.fab_reach_base.specs.declared.path.Path.{Path}
use Rattle.fab_reach_base.proofs.Adding.{Before, adds_as, adds_none, from_none}
use Rattle.fab_reach_base.proofs.Gathering.{reaches}
use Rattle.fab_reach_base.specs.PathOrder.{path_total, path_exact}
use Rattle.fab_reach_base.proofs.Services.{listed_in}
use Rattle.fab_reach_index.specs.Indexes.{IsTreeOf, IsHeldBy, IsTargetOf, IsHostGroupOf, IsRowOf}
use Rattle.fab_reach_books.specs.Pairs.{Pair}
use Rattle.fab_reach_index.specs.Inner.Regathering.{HasIn}
use Rattle.fab_reach_index.specs.Inner.Placing.{ByHolder, ByHostGroups, ByTargets, ByExposed, ByPath}

module _ {Q X : Type 0} (O : Q → Q → Ordering) (R : X → X → Ordering) where
  -- a map of nothing
  none_there : (t : BTreeMap Q (BTreeSet X)) → t.entries ≡ [] → (e : Q × X) → ¬ IsIn O R t e
  none_there t none e h = true≢false (sym h ∙ ap (λ (es : List (Q × BTreeSet X)). in_tree R (lookup (is_at (O e.0)) es) e.1) none)

  pub tree_is : (P : Q → X → Type 0) (t u : BTreeMap Q (BTreeSet X)) → t.entries ≡ [] → Adds (λ (e : Q × X). P e.0 e.1) (IsIn O R t) (IsIn O R u) → IsTreeOf O R P u
  tree_is P t u none a q k = from_none (λ (e : Q × X). P e.0 e.1) (IsIn O R t) (IsIn O R u) (none_there t none) a (q, k)

-- ---- many at once

module _ {Q X : Type 0} where
  -- an item at this key
  abbrev pub AtKey : Q → X → Q × X → Type 0
  AtKey q x e = e ≡ (q, x)

  -- this item at a key
  abbrev pub OfItem : X → Q → Q × X → Type 0
  OfItem x q e = e ≡ (q, x)

  pub at_key : {R : X → X → Ordering} → IsTotalOrder R → set.IsAntisymmetric R → (s : BTreeSet X) (q : Q) (ks : List X) (old new : Q × X → Type 0) → ks ≡ s.keys → Adds (Before (AtKey q) ks) old new → Adds (λ (e : Q × X). (e.0 ≡ q) × HasIn R s e.1) old new
  at_key {R} o exact s q ks old new is = adds_as (Before (AtKey q) ks) (λ (e : Q × X). (e.0 ≡ q) × HasIn R s e.1) old new
      (λ e h. (ap (λ (y : Q × X). y.0) h.2, subst (HasIn R s) (sym (ap (λ (y : Q × X). y.1) h.2)) ((btree_set_contains_iff o exact s h.0).1 (subst (λ xs. Contains xs h.0) is h.1))))
      (λ e h. (e.1, subst (λ xs. Contains xs e.1) (sym is) ((btree_set_contains_iff o exact s e.1).0 h.1), λ i. (h.0 i, e.1)))

  pub under_keys : {O : Q → Q → Ordering} → IsTotalOrder O → set.IsAntisymmetric O → (s : BTreeSet Q) (x : X) (ks : List Q) (old new : Q × X → Type 0) → ks ≡ s.keys → Adds (Before (OfItem x) ks) old new → Adds (λ (e : Q × X). HasIn O s e.0 × (e.1 ≡ x)) old new
  under_keys {O} o exact s x ks old new is = adds_as (Before (OfItem x) ks) (λ (e : Q × X). HasIn O s e.0 × (e.1 ≡ x)) old new
      (λ e h. (subst (HasIn O s) (sym (ap (λ (y : Q × X). y.0) h.2)) ((btree_set_contains_iff o exact s h.0).1 (subst (λ xs. Contains xs h.0) is h.1)), ap (λ (y : Q × X). y.1) h.2))
      (λ e h. (e.0, subst (λ xs. Contains xs e.0) (sym is) ((btree_set_contains_iff o exact s e.0).0 h.0), λ i. (e.0, h.1 i)))

-- ---- holders

pub holder_added : (x : ℕ × Known) (h : List ℕ) (old new : List ℕ × ℕ → Type 0) → x.1.holder ≡ Some h → Adds (λ (e : List ℕ × ℕ). e ≡ (h, x.0)) old new → Adds (ByHolder x) old new
holder_added x h old new is = adds_as (λ (e : List ℕ × ℕ). e ≡ (h, x.0)) (ByHolder x) old new
    (λ e s. (is ∙ ap Some (sym (ap (λ (y : List ℕ × ℕ). y.0) s)), ap (λ (y : List ℕ × ℕ). y.1) s))
    (λ e s. let f : Some e.0 ≡ Some h = sym s.0 ∙ is in let same : e.0 ≡ h = cc in λ i. (same i, s.1 i))

pub no_holder : (x : ℕ × Known) (old : List ℕ × ℕ → Type 0) → x.1.holder ≡ None → Adds (ByHolder x) old old
no_holder x old none = adds_none (ByHolder x) old (λ e s. let f : ◌≡◌ {A = Option (List ℕ)} None (Some e.0) = sym none ∙ s.0 in absurd cc)

pub held_all : (w : Records) (es : List (ℕ × Known)) (old new : List ℕ × ℕ → Type 0) → es ≡ map.entries w.inventory.ports → Adds (Before ByHolder es) old new → Adds (λ (e : List ℕ × ℕ). IsHeldBy w e.0 e.1) old new
held_all w es old new is = adds_as (Before ByHolder es) (λ (e : List ℕ × ℕ). IsHeldBy w e.0 e.1) old new to (λ e h. from e (map.get w.inventory.ports e.1) refl h)
  where
    holder : Option Known → Option (List ℕ)
    holder = option_and_then (λ (k : Known). k.holder)

    to : (e : List ℕ × ℕ) → Before ByHolder es e → IsHeldBy w e.0 e.1
    to e h =
        let at = (entry_decides nat_cmp nat_cmp_total set.nat_cmp-IsAntisymmetric w.inventory.ports h.0.0 h.0.1).1 (subst (λ xs. Contains xs h.0) is h.1) in
        ap (λ x. option_and_then (λ (k : Known). k.holder) (map.get w.inventory.ports x)) h.2.1 ∙ ap (option_and_then (λ (k : Known). k.holder)) at ∙ h.2.0

    from : (e : List ℕ × ℕ) (o : Option Known) → map.get w.inventory.ports e.1 ≡ o → IsHeldBy w e.0 e.1 → Before ByHolder es e
    from e None at h = let f : ◌≡◌ {A = Option (List ℕ)} None (Some e.0) = sym (ap (option_and_then (λ (k : Known). k.holder)) at) ∙ h in absurd cc
    from e (Some k) at h = ((e.1, k), subst (λ xs. Contains xs (e.1, k)) (sym is) ((entry_decides nat_cmp nat_cmp_total set.nat_cmp-IsAntisymmetric w.inventory.ports e.1 k).0 at), (sym (ap (option_and_then (λ (x : Known). x.holder)) at) ∙ h, refl))

-- ---- storage groups

pub host_groups_placed : (x : List ℕ × StorageGroupRows) (ks : List (List ℕ)) (old new : List ℕ × List ℕ → Type 0) → set.from_list ks ≡ x.1.host_groups → Adds (Before (λ k (e : List ℕ × List ℕ). e ≡ (k, x.0)) ks) old new → Adds (ByHostGroups x) old new
host_groups_placed x ks old new is = adds_as (Before (λ k (e : List ℕ × List ℕ). e ≡ (k, x.0)) ks) (ByHostGroups x) old new
    (λ e h. (subst (λ y. set.contains x.1.host_groups y ≡ true) (sym (ap (λ (y : List ℕ × List ℕ). y.0) h.2)) ((listed_in x.1.host_groups ks is h.0).1 h.1), ap (λ (y : List ℕ × List ℕ). y.1) h.2))
    (λ e h. (e.0, (listed_in x.1.host_groups ks is e.0).0 h.0, λ i. (e.0, h.1 i)))

pub targets_placed : (x : List ℕ × StorageGroupRows) (ks : List ℕ) (old new : ℕ × List ℕ → Type 0) → set.from_list ks ≡ x.1.targets → Adds (Before (λ k (e : ℕ × List ℕ). e ≡ (k, x.0)) ks) old new → Adds (ByTargets x) old new
targets_placed x ks old new is = adds_as (Before (λ k (e : ℕ × List ℕ). e ≡ (k, x.0)) ks) (ByTargets x) old new
    (λ e h. (subst (λ y. set.contains x.1.targets y ≡ true) (sym (ap (λ (y : ℕ × List ℕ). y.0) h.2)) (sym (ap (λ s. set.contains s h.0) is) ∙ (listed_decides nat_cmp_total set.nat_cmp-IsAntisymmetric ks h.0).1 h.1), ap (λ (y : ℕ × List ℕ). y.1) h.2))
    (λ e h. (e.0, (listed_decides nat_cmp_total set.nat_cmp-IsAntisymmetric ks e.0).0 (ap (λ s. set.contains s e.0) is ∙ h.0), λ i. (e.0, h.1 i)))

pub exposed_placed : (x : List ℕ × StorageGroupRows) (old new : ℕ × List ℕ → Type 0) → x.1.exposed ≡ true → Adds (ByTargets x) old new → Adds (ByExposed x) old new
exposed_placed x old new is = adds_as (ByTargets x) (ByExposed x) old new (λ e h. (is, h)) (λ e h. h.1)

pub hidden_placed : (x : List ℕ × StorageGroupRows) (old : ℕ × List ℕ → Type 0) → x.1.exposed ≡ false → Adds (ByExposed x) old old
hidden_placed x old is = adds_none (ByExposed x) old (λ e h. true≢false (sym h.0 ∙ is))

module _ (w : Records) (es : List (List ℕ × StorageGroupRows)) (is : es ≡ map.entries w.config.mapping.groups) where
  there : (n : List ℕ) (g : StorageGroupRows) → (Contains es (n, g) → map.get w.config.mapping.groups n ≡ Some g) × (map.get w.config.mapping.groups n ≡ Some g → Contains es (n, g))
  there n g =
      let d = entry_decides name_cmp name_total name_exact w.config.mapping.groups n g in
      ((λ h. d.1 (subst (λ xs. Contains xs (n, g)) is h)), λ h. subst (λ xs. Contains xs (n, g)) (sym is) (d.0 h))

  pub serving_all : (old new : List ℕ × List ℕ → Type 0) → Adds (Before ByHostGroups es) old new → Adds (λ (e : List ℕ × List ℕ). IsHostGroupOf w e.0 e.1) old new
  serving_all old new = adds_as (Before ByHostGroups es) (λ (e : List ℕ × List ℕ). IsHostGroupOf w e.0 e.1) old new
      (λ e h. (h.0.1, ap (map.get w.config.mapping.groups) h.2.1 ∙ (there h.0.0 h.0.1).0 h.1, h.2.0))
      (λ e h. ((e.1, h.0), (there e.1 h.0).1 h.1, (h.2, refl)))

  pub targeted_all : (old new : ℕ × List ℕ → Type 0) → Adds (Before ByExposed es) old new → Adds (λ (e : ℕ × List ℕ). IsTargetOf w e.0 e.1) old new
  targeted_all old new = adds_as (Before ByExposed es) (λ (e : ℕ × List ℕ). IsTargetOf w e.0 e.1) old new
      (λ e h. (h.0.1, ap (map.get w.config.mapping.groups) h.2.1.1 ∙ (there h.0.0 h.0.1).0 h.1, h.2.0, h.2.1.0))
      (λ e h. ((e.1, h.0), (there e.1 h.0).1 h.1, (h.2, (h.3, refl))))

-- ---- paths

pub paths_placed : (s : BTreeSet Path) (ks : List Path) (old new : Pair × Path → Type 0) → ks ≡ s.keys → Adds (Before (λ (x : Path) (e : Pair × Path). e ≡ ((x.initiator, x.target), x)) ks) old new → Adds (ByPath s) old new
paths_placed s ks old new is = adds_as (Before (λ (x : Path) (e : Pair × Path). e ≡ ((x.initiator, x.target), x)) ks) (ByPath s) old new
    (λ e h.
    let same = ap (λ (y : Pair × Path). y.1) h.2 in
    (subst (Has s) (sym same) ((btree_set_contains_iff path_total path_exact s h.0).1 (subst (λ xs. Contains xs h.0) is h.1)), ap (λ (y : Pair × Path). y.0) h.2 ∙ ap (λ (y : Path). (y.initiator, y.target)) (sym same)))
    (λ e h. (e.1, subst (λ xs. Contains xs e.1) (sym is) ((btree_set_contains_iff path_total path_exact s e.1).0 h.0), λ i. (h.1 i, e.1)))

pub rows_all : (w : Records) (s : BTreeSet Path) (old new : Pair × Path → Type 0) → AreReached w (Has s) → Adds (ByPath s) old new → Adds (λ (e : Pair × Path). IsRowOf w e.0 e.1) old new
rows_all w s old new are = adds_as (ByPath s) (λ (e : Pair × Path). IsRowOf w e.0 e.1) old new
    (λ e h. subst (λ (p : Pair). PathOf w p.0 p.1 e.1) (sym h.1) ((are e.1).0 h.0))
    (λ e h. ((are e.1).1 (reaches w e.0.0 e.0.1 e.1 h), λ i. (sym h.initiator i, sym h.target i)))
