-- Groups and sets that another configuration has just so have no row that it lacks.
use Rattle.std.proofs.Common.{◌≡◌, ℕ, List, Option, None, Some, true, inl, inr, refl, sym, ap, ◌∙◌, subst}
use Rattle.std.specs.declared.cmp.Ordering.{Ordering}
use Rattle.std.specs.BTreeSet.{BTreeSet}
use Rattle.std.specs.Cmp.{IsTotalOrder}
use Rattle.std.specs.FinSet as set
use Rattle.std.specs.Option.{option_map}
use Rattle.std.proofs.lemmas.Map.Views.{btree_set_contains_iff}
use Rattle.fab_reach_base.specs.fab_lemmas.MapsOfSets.{in_set, in_tree, seen_set}
use Rattle.fab_reach_base.proofs.fab_lemmas.SeenSets.{contains_seen}
use Rattle.fab_reach_base.specs.fab_mapping_base.Groups.{HostGroupRows, StorageGroupRows}
use Rattle.fab_reach_base.specs.Adding.{Adds}
use Rattle.fab_reach_base.specs.Records.{ConfigRows}
use Rattle.fab_reach_base.proofs.Adding.{adds_none}
use Rattle.fab_store_rows.specs.declared.config_row.ConfigRow.{ConfigRow}
use Rattle.fab_store_rows.specs.Gathering.{Has, HasAll, Lacking, HasHostGroup, HasStorageGroup, RowOfSome, IsHostGroupRow, IsStorageGroupRow}
use Rattle.fab_store_rows.specs.Standing.{Stands}

host_rows_stand : (c : ConfigRows) (n : List ℕ) (g : HostGroupRows) → HasHostGroup (Some c) n g → (r : ConfigRow) → IsHostGroupRow n g r → Stands c r
host_rows_stand c n g has r row = elim row [
  | inl head ↦ subst (Stands c) (sym head) (g, has, record { tenant = refl })
  | inr host ↦ subst (Stands c) (sym host.2) (g, has, host.1)
]

group_rows_stand : (c : ConfigRows) (n : List ℕ) (g : StorageGroupRows) → HasStorageGroup (Some c) n g → (r : ConfigRow) → IsStorageGroupRow n g r → Stands c r
group_rows_stand c n g has r row = elim row [
  | inl head ↦ subst (Stands c) (sym head) (g, has, record { tenant = refl; array = refl; exposed = refl })
  | inr p ↦ subst (Stands c) (sym p.2) (g, has, p.1)
]

-- nothing is to be added
pub host_group_kept : (o : Option ConfigRows) (n : List ℕ) (g : HostGroupRows) (s : BTreeSet ConfigRow) → HasHostGroup o n g → Adds (Lacking o (IsHostGroupRow n g)) (Has s) (Has s)
host_group_kept None n g s has = absurd has
host_group_kept (Some c) n g s has = adds_none (Lacking (Some c) (IsHostGroupRow n g)) (Has s) (λ r w. w.1 (host_rows_stand c n g has r w.0))

pub storage_group_kept : (o : Option ConfigRows) (n : List ℕ) (g : StorageGroupRows) (s : BTreeSet ConfigRow) → HasStorageGroup o n g → Adds (Lacking o (IsStorageGroupRow n g)) (Has s) (Has s)
storage_group_kept None n g s has = absurd has
storage_group_kept (Some c) n g s has = adds_none (Lacking (Some c) (IsStorageGroupRow n g)) (Has s) (λ r w. w.1 (group_rows_stand c n g has r w.0))

-- ---- sets under keys

module _ {K : Type 0} {R : K → K → Ordering} (o : IsTotalOrder R) where
  -- the items of the other set are found in the finite set that it is seen as
  pub seen_has : (other : Option (BTreeSet K)) (s : Option (set.FinSet R)) (k : K) → option_map (seen_set R) other ≡ s → in_tree R other k ≡ true → in_set s k ≡ true
  seen_has None s k is h = sym (ap (λ x. in_set x k) is) ∙ h
  seen_has (Some t) s k is h = sym (ap (λ x. in_set x k) is) ∙ contains_seen o t k ∙ h

  -- rows of items that the other set has
  pub rows_kept : set.IsAntisymmetric R → (P : ConfigRow → Type 0) (row : K → ConfigRow) (other : Option (BTreeSet K)) (items : BTreeSet K) → HasAll R other items
      → ((k : K) → in_tree R other k ≡ true → P (row k)) → (r : ConfigRow) → RowOfSome row items.keys r → P r
  rows_kept exact P row None items has at r w = absurd has
  rows_kept exact P row (Some t) items has at r w = subst P (sym w.2) (at w.0 (has w.0 ((btree_set_contains_iff o exact items w.0).1 w.1)))
