-- The storage groups that a step touches, by hosts and by targets.
use Rattle.std.proofs.Common.{ℕ, ◌≡◌, List, true, refl, sym, subst}
use Rattle.std.specs.BTreeSet.{BTreeSet}
use Rattle.std.specs.FinSet as set
use Rattle.fab_mapping_base.specs.Groups.{StorageGroupRows}
use Rattle.fab_reach_base.specs.Adding.{Adds}
use Rattle.fab_reach_base.specs.Records.{Records}
use Rattle.fab_reach_base.proofs.Adding.{Before, adds_as, adds_none}
use Rattle.fab_reach_base.proofs.Same.{same_some}
use Rattle.fab_reach_books.proofs.SetLoops.{all_names}
use Rattle.fab_reach_books.specs.Inner.Sets.{HasName, HasPortIn}
use Rattle.fab_reach_books.specs.Rows.{Stands}
use Rattle.fab_reach_index.specs.Indexes.{IsHostServed, IsTargetOf}
use Rattle.fab_reach_moves.specs.Inner.Listing.{IsExposedIn, IsHostOf, target_row}

-- a host and a storage group, a target and a storage group
abbrev pub Served : Type 0
Served = List ℕ × List ℕ

abbrev pub Targeted : Type 0
Targeted = ℕ × List ℕ

module _ (w : Records) (n : List ℕ) where
  pub served_adds : (hosts : BTreeSet (List ℕ)) (old new : Served → Type 0) → IsExposedIn w n → ((h : List ℕ) → (HasName hosts h → IsHostOf w n h) × (IsHostOf w n h → HasName hosts h))
      → Adds (λ (e : Served). HasName hosts e.0 × (e.1 ≡ n)) old new → Adds (λ (e : Served). IsHostServed w e.0 e.1 × (e.1 ≡ n)) old new
  served_adds hosts old new x are = adds_as (λ (e : Served). HasName hosts e.0 × (e.1 ≡ n)) (λ (e : Served). IsHostServed w e.0 e.1 × (e.1 ≡ n)) old new
      (λ e h.
      let s = (are e.0).0 h.0 in
      let k = s.1 in
      (subst (IsHostServed w e.0) (sym h.1) (x.0, x.1, x.2, (s.0, subst (λ (g : StorageGroupRows). set.contains g.host_groups s.0 ≡ true) (same_some k.1 x.1) k.2, s.2)), h.1))
      (λ e h.
      let s = subst (IsHostServed w e.0) h.1 h.0 in
      let k = s.3 in
      ((are e.0).1 (k.0, (s.0, s.1, k.1), k.2), h.1))

  pub served_none : (old : Served → Type 0) → ¬ IsExposedIn w n → Adds (λ (e : Served). IsHostServed w e.0 e.1 × (e.1 ≡ n)) old old
  served_none old hidden = adds_none (λ (e : Served). IsHostServed w e.0 e.1 × (e.1 ≡ n)) old (λ e h. let s = subst (IsHostServed w e.0) h.1 h.0 in hidden (s.0, s.1, s.2))

  pub targeted_adds : (targets : BTreeSet ℕ) (old new : Targeted → Type 0) → IsExposedIn w n → ((q : ℕ) → (HasPortIn targets q → Stands w (target_row n q)) × (Stands w (target_row n q) → HasPortIn targets q))
      → Adds (λ (e : Targeted). HasPortIn targets e.0 × (e.1 ≡ n)) old new → Adds (λ (e : Targeted). IsTargetOf w e.0 e.1 × (e.1 ≡ n)) old new
  targeted_adds targets old new x are = adds_as (λ (e : Targeted). HasPortIn targets e.0 × (e.1 ≡ n)) (λ (e : Targeted). IsTargetOf w e.0 e.1 × (e.1 ≡ n)) old new
      (λ e h.
      let s = (are e.0).0 h.0 in
      (subst (IsTargetOf w e.0) (sym h.1) (x.0, x.1, x.2, subst (λ (g : StorageGroupRows). set.contains g.targets e.0 ≡ true) (same_some s.1 x.1) s.2), h.1))
      (λ e h. let s = subst (IsTargetOf w e.0) h.1 h.0 in ((are e.0).1 (s.0, s.1, s.3), h.1))

  pub targeted_none : (old : Targeted → Type 0) → ¬ IsExposedIn w n → Adds (λ (e : Targeted). IsTargetOf w e.0 e.1 × (e.1 ≡ n)) old old
  targeted_none old hidden = adds_none (λ (e : Targeted). IsTargetOf w e.0 e.1 × (e.1 ≡ n)) old (λ e h. let s = subst (IsTargetOf w e.0) h.1 h.0 in hidden (s.0, s.1, s.2))

-- ---- all of them

abbrev pub OfServed : Records → List ℕ → Served → Type 0
OfServed w n e = IsHostServed w e.0 e.1 × (e.1 ≡ n)

abbrev pub OfTargeted : Records → List ℕ → Targeted → Type 0
OfTargeted w n e = IsTargetOf w e.0 e.1 × (e.1 ≡ n)

pub all_served : (w : Records) (s : BTreeSet (List ℕ)) (ks : List (List ℕ)) (old new : Served → Type 0) → ks ≡ s.keys → Adds (Before (OfServed w) ks) old new → Adds (λ (e : Served). HasName s e.1 × IsHostServed w e.0 e.1) old new
all_served w s ks old new is a = adds_as (λ (e : Served). (n : List ℕ) × HasName s n × OfServed w n e) (λ (e : Served). HasName s e.1 × IsHostServed w e.0 e.1) old new
    (λ e h. (subst (HasName s) (sym h.2.1) h.1, h.2.0)) (λ e h. (e.1, h.0, (h.1, refl))) (all_names (OfServed w) s ks old new is a)

pub all_targeted : (w : Records) (s : BTreeSet (List ℕ)) (ks : List (List ℕ)) (old new : Targeted → Type 0) → ks ≡ s.keys → Adds (Before (OfTargeted w) ks) old new → Adds (λ (e : Targeted). HasName s e.1 × IsTargetOf w e.0 e.1) old new
all_targeted w s ks old new is a = adds_as (λ (e : Targeted). (n : List ℕ) × HasName s n × OfTargeted w n e) (λ (e : Targeted). HasName s e.1 × IsTargetOf w e.0 e.1) old new
    (λ e h. (subst (HasName s) (sym h.2.1) h.1, h.2.0)) (λ e h. (e.1, h.0, (h.1, refl))) (all_names (OfTargeted w) s ks old new is a)
