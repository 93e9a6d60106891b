-- What storage groups offer before a step and after it.
use Rattle.std.proofs.Common.{ℕ, ◌≡◌, List, [], Bool, true, Some, ◌⊎◌, inl, inr, refl, sym, ap, subst}
use Rattle.std.specs.Cmp.{nat_cmp_total}
use Rattle.std.specs.BTreeSet.{BTreeSet}
use Rattle.std.specs.FinMap as map
use Rattle.std.specs.FinSet as set
use Rattle.fab_mapping_base.specs.Groups.{StorageGroupRows}
use Rattle.fab_names.specs.declared.fabric.Fabric.{Fabric}
use Rattle.fab_reach_base.specs.Adding.{Adds}
use Rattle.fab_reach_base.specs.Gathering.{Serves}
use Rattle.fab_reach_base.specs.Records.{Records}
use Rattle.fab_reach_base.proofs.Adding.{Before, adds_as, adds_none}
use Rattle.fab_reach_base.proofs.Same.{same_some}
use Rattle.fab_reach_base.proofs.Sets.{none_in}
use Rattle.fab_reach_index.specs.declared.index.Index.{Index}
use Rattle.fab_reach_index.specs.Indexes.{IsHeldBy, IsIndexOf}
use Rattle.fab_reach_pairs.specs.Inner.Finding.{ByGroup}
use Rattle.fab_reach_books.specs.Inner.Sets.{HasName, HasPortIn}
use Rattle.fab_reach_moves.specs.Inner.Listing.{target_row, IsExposedIn, IsHostOf, TellsUnits}
use Rattle.fab_reach_pairs.specs.Inner.Offering.{IsPortServed}
use Rattle.fab_reach_books.specs.Pairs.{Pair}
use Rattle.fab_reach.specs.Inner.Regrouping.{IsPortOf, AreOffered, IsOfferedOtherwise}
use Rattle.fab_reach_books.specs.Rows.{Stands}
use Rattle.fab_reach_books.proofs.SetLoops.{adds_both, all_ports, all_names}

-- ---- what it offers

module _ (w : Records) (n : List ℕ) (ports targets : BTreeSet ℕ) (are : (q : ℕ) → (HasPortIn targets q → Stands w (target_row n q)) × (Stands w (target_row n q) → HasPortIn targets q)) where
  pub offered_none : ports.keys ≡ [] → ((g : StorageGroupRows) → map.get w.config.mapping.groups n ≡ Some g → ¬ (g.exposed ≡ true)) → AreOffered w n ports targets
  offered_none none hidden p q = ((λ h. absurd (none_in nat_cmp_total set.nat_cmp-IsAntisymmetric ports none p h.0)), λ o. absurd (hidden o.0 o.1.0.there o.1.1))

  pub offered_here : {X : Type 0} (m : Index X) (index : IsIndexOf w m) (g : StorageGroupRows) → map.get w.config.mapping.groups n ≡ Some g → g.exposed ≡ true
      → ((p : ℕ) → (HasPortIn ports p → IsPortServed w.config.mapping m.held g p) × (IsPortServed w.config.mapping m.held g p → HasPortIn ports p)) → AreOffered w n ports targets
  offered_here m index g at exposed served p q = (
    (λ h.
        let s = (served p).0 h.0 in
        let t = (are q).0 h.1 in
        (g, (record { there = at; host = s.0; held = (index.held s.0 p).0 s.2; serves = s.1; target = subst (λ (y : StorageGroupRows). set.contains y.targets q ≡ true) (same_some t.1 at) t.2 }, exposed))),
    λ o.
        let h = o.1.0 in
        let same : o.0 ≡ g = same_some h.there at in
        ((served p).1 (h.host, subst (λ (y : StorageGroupRows). Serves w.config.mapping y h.host) same h.serves, (index.held h.host p).1 h.held), (are q).1 (o.0, h.there, h.target)),
  )

  pub offered_there : IsExposedIn w n → ((p : ℕ) → (HasPortIn ports p → IsPortOf w n p) × (IsPortOf w n p → HasPortIn ports p)) → AreOffered w n ports targets
  offered_there x served p q = (
    (λ h.
        let s = (served p).0 h.0 in
        let t = (are q).0 h.1 in
        let k = s.1.1 in (
          x.0,
          (
            record {
              there = x.1;
              host = s.0;
              held = s.2;
              serves = (s.1.0, subst (λ (y : StorageGroupRows). set.contains y.host_groups s.1.0 ≡ true) (same_some k.1 x.1) k.2, s.1.2);
              target = subst (λ (y : StorageGroupRows). set.contains y.targets q ≡ true) (same_some t.1 x.1) t.2;
            },
            x.2,
          ),
        )),
    λ o.
        let h = o.1.0 in
        ((served p).1 (h.host, (h.serves.0, (o.0, h.there, h.serves.1), h.serves.2), h.held), (are q).1 (o.0, h.there, h.target)),
  )

-- ---- hosts and ports after the step

pub ports_are : (v : Records) (n : List ℕ) (hosts : BTreeSet (List ℕ)) (ports : BTreeSet ℕ) → ((h : List ℕ) → (HasName hosts h → IsHostOf v n h) × (IsHostOf v n h → HasName hosts h))
    → ((p : ℕ) → (HasPortIn ports p → (h : List ℕ) × HasName hosts h × IsHeldBy v h p) × (((h : List ℕ) × HasName hosts h × IsHeldBy v h p) → HasPortIn ports p))
    → (p : ℕ) → (HasPortIn ports p → IsPortOf v n p) × (IsPortOf v n p → HasPortIn ports p)
ports_are v n hosts ports a b p = ((λ x. let y = (b p).0 x in (y.0, (a y.0).0 y.1, y.2)), λ x. (b p).1 (x.0, (a x.0).1 x.1, x.2))

-- ---- pairs that are not offered in the same way

module _ (ports targets : BTreeSet ℕ) (same : Bool) where
  abbrev pub IsAlike : Pair → Type 0
  IsAlike e = (same ≡ true) × HasPortIn ports e.0 × HasPortIn targets e.1

  pub not_alike : (k : Pair) (old new : Pair → Type 0) → ¬ IsAlike k → Adds (λ e. e ≡ k) old new → Adds (λ e. ¬ IsAlike e × (e ≡ k)) old new
  not_alike k old new none = adds_as (λ e. e ≡ k) (λ e. ¬ IsAlike e × (e ≡ k)) old new (λ e is. ((λ h. none (subst IsAlike is h)), is)) (λ e h. h.1)

  pub alike : (k : Pair) (old : Pair → Type 0) → IsAlike k → Adds (λ e. ¬ IsAlike e × (e ≡ k)) old old
  alike k old is = adds_none (λ e. ¬ IsAlike e × (e ≡ k)) old (λ e h. h.0 (subst IsAlike (sym h.1) is))

  pub with_targets : (p : ℕ) (s : BTreeSet ℕ) (ks : List ℕ) (old new : Pair → Type 0) → ks ≡ s.keys → Adds (Before (λ q (e : Pair). ¬ IsAlike e × (e ≡ (p, q))) ks) old new → Adds (λ e. HasPortIn s e.1 × ¬ IsAlike e × (e.0 ≡ p)) old new
  with_targets p s ks old new is a = adds_as (λ e. (q : ℕ) × HasPortIn s q × (¬ IsAlike e × (e ≡ (p, q)))) (λ e. HasPortIn s e.1 × ¬ IsAlike e × (e.0 ≡ p)) old new
      (λ e h. (subst (HasPortIn s) (sym (ap (λ (x : Pair). x.1) h.2.1)) h.1, h.2.0, ap (λ (x : Pair). x.0) h.2.1))
      (λ e h. (e.1, h.0, (h.1, λ i. (h.2 i, e.1))))
      (all_ports (λ q (e : Pair). ¬ IsAlike e × (e ≡ (p, q))) s ks old new is a)

  pub with_all : (s t : BTreeSet ℕ) (ks : List ℕ) (old new : Pair → Type 0) → ks ≡ s.keys → Adds (Before (λ p (e : Pair). HasPortIn t e.1 × ¬ IsAlike e × (e.0 ≡ p)) ks) old new → Adds (λ e. HasPortIn s e.0 × HasPortIn t e.1 × ¬ IsAlike e) old new
  with_all s t ks old new is a = adds_as (λ e. (p : ℕ) × HasPortIn s p × (HasPortIn t e.1 × ¬ IsAlike e × (e.0 ≡ p))) (λ e. HasPortIn s e.0 × HasPortIn t e.1 × ¬ IsAlike e) old new
      (λ e h. (subst (HasPortIn s) (sym h.2.2) h.1, h.2.0, h.2.1))
      (λ e h. (e.0, h.0, (h.1, h.2, refl)))
      (all_ports (λ p (e : Pair). HasPortIn t e.1 × ¬ IsAlike e × (e.0 ≡ p)) s ks old new is a)

-- the pairs of a storage group in both worlds
module _ (w v : Records) (n : List ℕ) (s t u x : BTreeSet ℕ) (same : Bool) where
  abbrev pub One : Pair → Type 0
  One e = HasPortIn s e.0 × HasPortIn t e.1 × ¬ IsAlike u x same e

  abbrev pub Other : Pair → Type 0
  Other e = HasPortIn u e.0 × HasPortIn x e.1 × ¬ IsAlike s t same e

  module _ (here : AreOffered w n s t) (there : AreOffered v n u x) (units : TellsUnits w v n same) where
    to : (e : Pair) → One e ⊎ Other e → IsOfferedOtherwise w v n e.0 e.1
    to e (inl h) =
        let o = (here e.0 e.1).0 (h.0, h.1) in
        (o.0, inl (o.1, λ k. let at = (there e.0 e.1).1 (k.0, k.1) in h.2 ((units o.0 k.0 o.1.0.there k.1.0.there).1 k.2, at.0, at.1)))
    to e (inr h) =
        let o = (there e.0 e.1).0 (h.0, h.1) in
        (o.0, inr (o.1, λ k. let at = (here e.0 e.1).1 (k.0, k.1) in h.2 ((units k.0 o.0 k.1.0.there o.1.0.there).1 (sym k.2), at.0, at.1)))

    from : (e : Pair) → IsOfferedOtherwise w v n e.0 e.1 → One e ⊎ Other e
    from e h = elim h.1 [
      | inl k ↦ let at = (here e.0 e.1).1 (h.0, k.0) in inl (at.0, at.1, λ l. let o = (there e.0 e.1).0 (l.1, l.2) in k.1 (o.0, o.1, (units h.0 o.0 k.0.0.there o.1.0.there).0 l.0))
      | inr k ↦ let at = (there e.0 e.1).1 (h.0, k.0) in inr (at.0, at.1, λ l. let o = (here e.0 e.1).0 (l.1, l.2) in k.1 (o.0, o.1, sym ((units o.0 h.0 o.1.0.there k.0.0.there).0 l.0)))
    ]

    pub of_group : (old mid new : Pair → Type 0) → Adds One old mid → Adds Other mid new → Adds (λ e. IsOfferedOtherwise w v n e.0 e.1) old new
    of_group old mid new a b = adds_as (λ e. One e ⊎ Other e) (λ e. IsOfferedOtherwise w v n e.0 e.1) old new to from (adds_both One Other old mid new a b)

pub of_groups : (w v : Records) (s : BTreeSet (List ℕ)) (ks : List (List ℕ)) (old new : Pair → Type 0) → ks ≡ s.keys → Adds (Before (λ n (e : Pair). IsOfferedOtherwise w v n e.0 e.1) ks) old new
    → Adds (λ e. (n : List ℕ) × HasName s n × IsOfferedOtherwise w v n e.0 e.1) old new
of_groups w v = all_names (λ n (e : Pair). IsOfferedOtherwise w v n e.0 e.1)

pub ports_all : (v : Records) (hosts : BTreeSet (List ℕ)) (ks : List (List ℕ)) (old new : ℕ → Type 0) → ks ≡ hosts.keys → Adds (Before (λ h (p : ℕ). IsHeldBy v h p) ks) old new → Adds (λ p. (h : List ℕ) × HasName hosts h × IsHeldBy v h p) old new
ports_all v = all_names (λ h (p : ℕ). IsHeldBy v h p)

pub by_groups : (w v : Records) (moved : BTreeSet ℕ) (touched : BTreeSet (List ℕ)) (flagged : Fabric → Bool) (old new : Pair → Type 0) → Adds (λ e. (n : List ℕ) × HasName touched n × IsOfferedOtherwise w v n e.0 e.1) old new → Adds (λ e. ByGroup w v moved touched flagged e.0 e.1) old new
by_groups w v moved touched flagged old new = adds_as (λ e. (n : List ℕ) × HasName touched n × IsOfferedOtherwise w v n e.0 e.1) (λ e. ByGroup w v moved touched flagged e.0 e.1) old new
    (λ e h. (h.0, h.2.0, h.1, h.2.1)) (λ e h. (h.0, h.2, (h.1, h.3)))
