-- What is known of ports after a step, and what kept storage groups offer them.
use Rattle.std.proofs.Common.{ℕ, ◌≡◌, List, true, false, Option, None, Some, ◌⊎◌, inl, inr, refl, sym, ap, ◌∙◌, subst}
use mathlib.Core.Bool.{true≢false}
use Rattle.std.specs.BTreeMap as tree
use Rattle.std.specs.BTreeMap.{BTreeMap}
use Rattle.std.specs.BTreeSet.{BTreeSet, contains}
use Rattle.std.specs.FinMap as map
use Rattle.std.specs.FinSet as set
use Rattle.fab_names.specs.Orders.{name_cmp}
use Rattle.fab_inventory.specs.Holders.{holder_in}
use Rattle.fab_lemmas.specs.MapsOfSets.{in_tree, tree_has}
use Rattle.fab_mapping_base.specs.Groups.{StorageGroupRows}
use Rattle.fab_mapping.specs.Mappings.{MappingRows}
use Rattle.fab_reach_base.specs.Adding.{Adds}
use Rattle.fab_reach_base.specs.Gathering.{Serves, HasTarget, IsTargeted}
use Rattle.fab_reach_base.specs.Records.{Records}
use Rattle.fab_reach_base.proofs.Adding.{Before, adds_as, adds_none}
use Rattle.fab_reach_base.proofs.Same.{same_some}
use Rattle.fab_reach_index.specs.declared.index.Index.{Index}
use Rattle.fab_reach_moves.specs.Moves.{AreTouched}
use Rattle.fab_reach_index.specs.Indexes.{IsIndexOf}
use Rattle.fab_reach_books.specs.Inner.Moving.{IsOffered}
use Rattle.fab_reach_books.specs.Inner.Sets.{HasPortIn, HasName}
use Rattle.fab_reach_pairs.specs.Inner.Offering.{IsTargetAt, IsKeptAt, IsOfferedByKept}
use Rattle.fab_reach_books.specs.Pairs.{Pair}
use Rattle.fab_reach_books.proofs.SetLoops.{adds_both, all_ports, all_names}
use Rattle.fab_reach_pairs.proofs.LooseLoops.{offered_from, offered_by}

-- ---- storage groups that are not touched

module _ (touched : BTreeSet (List ℕ)) where
  pub kept_name : (k : List ℕ) (old new : List ℕ → Type 0) → contains name_cmp touched k ≡ false → Adds (λ n. n ≡ k) old new → Adds (λ n. (n ≡ k) × (contains name_cmp touched n ≡ false)) old new
  kept_name k old new is = adds_as (λ n. n ≡ k) (λ n. (n ≡ k) × (contains name_cmp touched n ≡ false)) old new (λ n e. (e, ap (contains name_cmp touched) e ∙ is)) (λ n h. h.0)

  pub kept_names : (s : BTreeSet (List ℕ)) (ks : List (List ℕ)) (old new : List ℕ → Type 0) → ks ≡ s.keys → Adds (Before (λ k (n : List ℕ). (n ≡ k) × (contains name_cmp touched n ≡ false)) ks) old new
      → Adds (λ n. (contains name_cmp s n ≡ true) × (contains name_cmp touched n ≡ false)) old new
  kept_names s ks old new is a = adds_as (λ n. (k : List ℕ) × HasName s k × ((n ≡ k) × (contains name_cmp touched n ≡ false))) (λ n. (contains name_cmp s n ≡ true) × (contains name_cmp touched n ≡ false)) old new
      (λ n h. (subst (HasName s) (sym h.2.0) h.1, h.2.1)) (λ n h. (n, h.0, (refl, h.1))) (all_names (λ k (n : List ℕ). (n ≡ k) × (contains name_cmp touched n ≡ false)) s ks old new is a)

  module _ (m : MappingRows) where
    pub kept_targets_are : (s t : BTreeSet (List ℕ)) (ts : BTreeSet ℕ) → ((n : List ℕ) → (HasName t n → (contains name_cmp s n ≡ true) × (contains name_cmp touched n ≡ false)) × ((contains name_cmp s n ≡ true) × (contains name_cmp touched n ≡ false) → HasName t n))
        → ((q : ℕ) → (HasPortIn ts q → IsTargeted m t q) × (IsTargeted m t q → HasPortIn ts q))
        → (q : ℕ) → (HasPortIn ts q → (n : List ℕ) × (contains name_cmp s n ≡ true) × (contains name_cmp touched n ≡ false) × HasTarget m n q) × (((n : List ℕ) × (contains name_cmp s n ≡ true) × (contains name_cmp touched n ≡ false) × HasTarget m n q) → HasPortIn ts q)
    kept_targets_are s t ts kept are q = (
      (λ h. let a = (are q).0 h in let k = (kept a.0).0 a.1 in (a.0, k.0, k.1, a.2)),
      λ h. (are q).1 (h.0, (kept h.0).1 (h.1, h.2), h.3),
    )

    module _ (served : BTreeMap (List ℕ) (BTreeSet (List ℕ))) where
      pub kept_at : (h : List ℕ) (p : ℕ) (s : BTreeSet (List ℕ)) (ts : BTreeSet ℕ) (old new : Pair → Type 0) → tree.get name_cmp served h ≡ Some s
          → ((q : ℕ) → (HasPortIn ts q → (n : List ℕ) × (contains name_cmp s n ≡ true) × (contains name_cmp touched n ≡ false) × HasTarget m n q) × (((n : List ℕ) × (contains name_cmp s n ≡ true) × (contains name_cmp touched n ≡ false) × HasTarget m n q) → HasPortIn ts q))
          → Adds (λ e. HasPortIn ts e.1 × (e.0 ≡ p)) old new → Adds (λ e. IsKeptAt m served touched h e.1 × (e.0 ≡ p)) old new
      kept_at h p s ts old new at are = adds_as (λ e. HasPortIn ts e.1 × (e.0 ≡ p)) (λ e. IsKeptAt m served touched h e.1 × (e.0 ≡ p)) old new
          (λ e x. let a = (are e.1).0 x.0 in ((a.0, ap (λ o. in_tree name_cmp o a.0) at ∙ a.1, a.2, a.3), x.1))
          (λ e x. ((are e.1).1 (x.0.0, sym (ap (λ o. in_tree name_cmp o x.0.0) at) ∙ x.0.1, x.0.2, x.0.3), x.1))

      pub none_kept_at : (h : List ℕ) (p : ℕ) (old : Pair → Type 0) → tree.get name_cmp served h ≡ None → Adds (λ e. IsKeptAt m served touched h e.1 × (e.0 ≡ p)) old old
      none_kept_at h p old none = adds_none (λ e. IsKeptAt m served touched h e.1 × (e.0 ≡ p)) old (λ e x. true≢false (sym x.0.1 ∙ ap (λ o. in_tree name_cmp o x.0.0) none))

module _ (m : MappingRows) (served : BTreeMap (List ℕ) (BTreeSet (List ℕ))) where
  pub targets_at : (h : List ℕ) (p : ℕ) (s : BTreeSet (List ℕ)) (ts : BTreeSet ℕ) (old new : Pair → Type 0) → tree.get name_cmp served h ≡ Some s → ((q : ℕ) → (HasPortIn ts q → IsTargeted m s q) × (IsTargeted m s q → HasPortIn ts q))
      → Adds (λ e. HasPortIn ts e.1 × (e.0 ≡ p)) old new → Adds (λ e. IsTargetAt m served h e.1 × (e.0 ≡ p)) old new
  targets_at h p s ts old new at are = adds_as (λ e. HasPortIn ts e.1 × (e.0 ≡ p)) (λ e. IsTargetAt m served h e.1 × (e.0 ≡ p)) old new
      (λ e x. let a = (are e.1).0 x.0 in ((a.0, ap (λ o. in_tree name_cmp o a.0) at ∙ a.1, a.2), x.1))
      (λ e x. ((are e.1).1 (x.0.0, sym (ap (λ o. in_tree name_cmp o x.0.0) at) ∙ x.0.1, x.0.2), x.1))

  pub no_targets_at : (h : List ℕ) (p : ℕ) (old : Pair → Type 0) → tree.get name_cmp served h ≡ None → Adds (λ e. IsTargetAt m served h e.1 × (e.0 ≡ p)) old old
  no_targets_at h p old none = adds_none (λ e. IsTargetAt m served h e.1 × (e.0 ≡ p)) old (λ e x. true≢false (sym x.0.1 ∙ ap (λ o. in_tree name_cmp o x.0.0) none))

-- ---- what is offered to a port

module _ {X : Type 0} (w : Records) (m : Index X) (are : IsIndexOf w m) where
  pub offered_before : (p : ℕ) (h : List ℕ) (old new : Pair → Type 0) → Some h ≡ holder_in (map.get w.inventory.ports) p → Adds (λ e. IsTargetAt w.config.mapping m.groups h e.1 × (e.0 ≡ p)) old new → Adds (λ e. IsOffered w e.0 e.1 × (e.0 ≡ p)) old new
  offered_before p h old new held = adds_as (λ e. IsTargetAt w.config.mapping m.groups h e.1 × (e.0 ≡ p)) (λ e. IsOffered w e.0 e.1 × (e.0 ≡ p)) old new
      (λ e x. (offered_from w m are e.0 e.1 h x.0.0 ((are.held h e.0).1 (ap (holder_in (map.get w.inventory.ports)) x.1 ∙ sym held)) x.0.1 x.0.2, x.1))
      (λ e x.
      let o = offered_by w m are e.0 e.1 x.0 in
      let same : o.0 ≡ h = same_some ((are.held o.0 e.0).0 o.2) (ap (holder_in (map.get w.inventory.ports)) x.1 ∙ sym held) in
      ((o.1, subst (λ y. tree_has name_cmp name_cmp m.groups y o.1 ≡ true) same o.3, o.4), x.1))

  pub not_offered_before : (p : ℕ) (old : Pair → Type 0) → None ≡ holder_in (map.get w.inventory.ports) p → Adds (λ e. IsOffered w e.0 e.1 × (e.0 ≡ p)) old old
  not_offered_before p old none = adds_none (λ e. IsOffered w e.0 e.1 × (e.0 ≡ p)) old (λ e x.
      let f : ◌≡◌ {A = Option (List ℕ)} None (Some x.0.2.0.host) = none ∙ ap (holder_in (map.get w.inventory.ports)) (sym x.1) ∙ x.0.2.0.held in absurd cc)

  module _ (v : Records) (touched : BTreeSet (List ℕ)) (t : AreTouched w v touched) where
    pub offered_after : (p : ℕ) (h : List ℕ) (old new : Pair → Type 0) → Some h ≡ holder_in (map.get v.inventory.ports) p → Adds (λ e. IsKeptAt w.config.mapping m.groups touched h e.1 × (e.0 ≡ p)) old new → Adds (λ e. IsOfferedByKept v touched e.0 e.1 × (e.0 ≡ p)) old new
    offered_after p h old new held = adds_as (λ e. IsKeptAt w.config.mapping m.groups touched h e.1 × (e.0 ≡ p)) (λ e. IsOfferedByKept v touched e.0 e.1 × (e.0 ≡ p)) old new
        (λ e x.
        let n = x.0.0 in
        let s = (are.groups h n).0 x.0.1 in
        let k = (t n x.0.2).stays s.0 s.1 in
        let target = subst (λ (g : StorageGroupRows). set.contains g.targets e.1 ≡ true) (same_some x.0.3.1 s.1) x.0.3.2 in
        ((n, k.other, x.0.2, (record { there = k.there; host = h; held = ap (holder_in (map.get v.inventory.ports)) x.1 ∙ sym held; serves = k.serves h s.3; target = k.targets e.1 target }, k.exposed s.2)), x.1))
        (λ e x.
        let n = x.0.0 in
        let o = x.0.3 in
        let k = (t n x.0.2).no_more x.0.1 o.0.there in
        let same : o.0.host ≡ h = same_some o.0.held (ap (holder_in (map.get v.inventory.ports)) x.1 ∙ sym held) in
        ((n, (are.groups h n).1 (k.other, k.there, k.exposed o.1, subst (Serves w.config.mapping k.other) same (k.serves o.0.host o.0.serves)), x.0.2, (k.other, k.there, k.targets e.1 o.0.target)), x.1))

    pub not_offered_after : (p : ℕ) (old : Pair → Type 0) → None ≡ holder_in (map.get v.inventory.ports) p → Adds (λ e. IsOfferedByKept v touched e.0 e.1 × (e.0 ≡ p)) old old
    not_offered_after p old none = adds_none (λ e. IsOfferedByKept v touched e.0 e.1 × (e.0 ≡ p)) old (λ e x.
        let f : ◌≡◌ {A = Option (List ℕ)} None (Some x.0.3.0.host) = none ∙ ap (holder_in (map.get v.inventory.ports)) (sym x.1) ∙ x.0.3.0.held in absurd cc)

    pub of_initiator : (p : ℕ) (old mid new : Pair → Type 0) → Adds (λ e. IsOffered w e.0 e.1 × (e.0 ≡ p)) old mid → Adds (λ e. IsOfferedByKept v touched e.0 e.1 × (e.0 ≡ p)) mid new
        → Adds (λ e. (IsOffered w e.0 e.1 ⊎ IsOfferedByKept v touched e.0 e.1) × (e.0 ≡ p)) old new
    of_initiator p old mid new a b = adds_as (λ e. (IsOffered w e.0 e.1 × (e.0 ≡ p)) ⊎ (IsOfferedByKept v touched e.0 e.1 × (e.0 ≡ p))) (λ e. (IsOffered w e.0 e.1 ⊎ IsOfferedByKept v touched e.0 e.1) × (e.0 ≡ p)) old new
        (λ e h. elim h [ inl x ↦ (inl x.0, x.1) | inr x ↦ (inr x.0, x.1) ])
        (λ e h. elim h.0 [ inl x ↦ inl (x, h.1) | inr x ↦ inr (x, h.1) ])
        (adds_both (λ e. IsOffered w e.0 e.1 × (e.0 ≡ p)) (λ e. IsOfferedByKept v touched e.0 e.1 × (e.0 ≡ p)) old mid new a b)

    pub of_initiators : (s : BTreeSet ℕ) (ks : List ℕ) (old new : Pair → Type 0) → ks ≡ s.keys → Adds (Before (λ p (e : Pair). (IsOffered w e.0 e.1 ⊎ IsOfferedByKept v touched e.0 e.1) × (e.0 ≡ p)) ks) old new
        → Adds (λ e. HasPortIn s e.0 × (IsOffered w e.0 e.1 ⊎ IsOfferedByKept v touched e.0 e.1)) old new
    of_initiators s ks old new is a = adds_as (λ e. (p : ℕ) × HasPortIn s p × ((IsOffered w e.0 e.1 ⊎ IsOfferedByKept v touched e.0 e.1) × (e.0 ≡ p))) (λ e. HasPortIn s e.0 × (IsOffered w e.0 e.1 ⊎ IsOfferedByKept v touched e.0 e.1)) old new
        (λ e h. (subst (HasPortIn s) (sym h.2.1) h.1, h.2.0)) (λ e h. (e.0, h.0, (h.1, refl))) (all_ports (λ p (e : Pair). (IsOffered w e.0 e.1 ⊎ IsOfferedByKept v touched e.0 e.1) × (e.0 ≡ p)) s ks old new is a)
