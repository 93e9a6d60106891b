-- The first that is lost, of a name, a part, a storage group, and a list of rows.
use Rattle.std.proofs.Common.{ℕ, ◌≡◌, ◌<◌, ◌≤◌, ◌+◌, List, [], ◌∷◌, ◌++◌, length, take, get_or, Option, None, Some, false, refl, sym, ap, ◌∙◌, subst}
use Rattle.std.proofs.lemmas.List.{take_all}
use Rattle.std.specs.declared.cmp.Ordering.{Ordering}
use Rattle.std.specs.Ordering.{nat_cmp, is_gt}
use Rattle.std.specs.Cmp.{IsTotalOrder, nat_cmp_total, tied_itself}
use Rattle.fab_inventory.specs.Inventories.{InventoryRows, IsHost}
use Rattle.fab_lemmas.specs.Firsts.{IsFirstWith, IsFirstOf, HasAt, lesser}
use Rattle.fab_lemmas.proofs.Leasts.{least_as, least_none, least_more}
use Rattle.fab_names.specs.Orders.{name_cmp}
use Rattle.fab_names.proofs.OrderLaws.{name_total}
use Rattle.fab_reach_base.proofs.Same.{same_some}
use Rattle.fab_mapping_base.specs.Clashes.{StorageGroups}
use Rattle.fab_mapping_base.specs.Groups.{StorageGroupRows}
use Rattle.fab_mapping_base.specs.Fitting.{IsPortOf, IsVolumeOn, LacksArray, LacksTarget, LacksVolume}
use Rattle.fab_store_rows.specs.declared.config_row.ConfigRow.{ConfigRow}
use Rattle.fab_store_rows.specs.declared.config_row.StoragePart.TheVariants as part
use Rattle.fab_store_edits.proofs.ManyRows.{next_is}
use Rattle.fab_plans_rows.specs.declared.lost.Lost.{Lost}
use Rattle.fab_plans_rows.specs.declared.lost.Lost.TheVariants.{Host, Array, Target, Volume}
use Rattle.fab_plans_rows.specs.contracts.lost.LostOrd.TheImpl.Laws.{total-law}
use Rattle.fab_plans_rows.specs.Inner.Losses.{lost_cmp, LacksName, PartLacks, GroupLacks, Among}

total : IsTotalOrder lost_cmp
total = total-law

-- a name that is the other is not before it
tied : {X : Type 0} (R : X → X → Ordering) → IsTotalOrder R → (x y : X) → x ≡ y → is_gt (R y x) ≡ false
tied R o x y e = ap (λ z. is_gt (R y z)) e ∙ ap is_gt (tied_itself o y)

-- ---- one name
module _ (inventory : InventoryRows) (h : List ℕ) where
  pub host_there : IsHost inventory.holders h → (x : Lost) → ¬ LacksName inventory h x
  host_there there (Host x) e = e.1 (subst (IsHost inventory.holders) (sym e.0) there)
  host_there there (Array x) e = e
  host_there there (Target x) e = e
  host_there there (Volume x) e = e

  pub host_first : ¬ IsHost inventory.holders h → IsFirstWith lost_cmp (LacksName inventory h) (Host h)
  host_first gone = ((refl, gone), by)
    where
      by : (x : Lost) → LacksName inventory h x → is_gt (lost_cmp (Host h) x) ≡ false
      by (Host x) e = tied name_cmp name_total x h e.0
      by (Array x) e = absurd e
      by (Target x) e = absurd e
      by (Volume x) e = absurd e

module _ (inventory : InventoryRows) (g : StorageGroupRows) where
  -- ---- one part
  module _ (t : ℕ) where
    pub target_there : IsPortOf inventory g.array t → (x : Lost) → ¬ PartLacks inventory g (part.Target t) x
    target_there there (Host x) e = e
    target_there there (Array x) e = e
    target_there there (Target x) e = e.1 (subst (IsPortOf inventory g.array) (sym e.0) there)
    target_there there (Volume x) e = e

    pub target_lost : ¬ IsPortOf inventory g.array t → IsFirstWith lost_cmp (PartLacks inventory g (part.Target t)) (Target t)
    target_lost gone = ((refl, gone), by)
      where
        by : (x : Lost) → PartLacks inventory g (part.Target t) x → is_gt (lost_cmp (Target t) x) ≡ false
        by (Host x) e = absurd e
        by (Array x) e = absurd e
        by (Target x) e = tied nat_cmp nat_cmp_total x t e.0
        by (Volume x) e = absurd e

  module _ (u : ℕ) (v : List ℕ) where
    pub volume_there : IsVolumeOn inventory g.array v → (x : Lost) → ¬ PartLacks inventory g (part.Unit u v) x
    volume_there there (Host x) e = e
    volume_there there (Array x) e = e
    volume_there there (Target x) e = e
    volume_there there (Volume x) e = e.1 (subst (IsVolumeOn inventory g.array) (sym e.0) there)

    pub volume_lost : ¬ IsVolumeOn inventory g.array v → IsFirstWith lost_cmp (PartLacks inventory g (part.Unit u v)) (Volume v)
    volume_lost gone = ((refl, gone), by)
      where
        by : (x : Lost) → PartLacks inventory g (part.Unit u v) x → is_gt (lost_cmp (Volume v) x) ≡ false
        by (Host x) e = absurd e
        by (Array x) e = absurd e
        by (Target x) e = absurd e
        by (Volume x) e = tied name_cmp name_total x v e.0

  -- ---- a whole group
  module _ (no_array : (a : List ℕ) → ¬ LacksArray inventory g a) where
    pub target_first : (t : ℕ) → IsFirstWith nat_cmp (LacksTarget inventory g) t → IsFirstWith lost_cmp (GroupLacks inventory g) (Target t)
    target_first t h = (h.0, by)
      where
        by : (x : Lost) → GroupLacks inventory g x → is_gt (lost_cmp (Target t) x) ≡ false
        by (Host x) e = absurd e
        by (Array x) e = absurd (no_array x e)
        by (Target x) e = h.1 x e
        by (Volume x) e = refl

    module _ (no_target : (t : ℕ) → ¬ LacksTarget inventory g t) where
      pub volume_first : (v : List ℕ) → IsFirstWith name_cmp (LacksVolume inventory g) v → IsFirstWith lost_cmp (GroupLacks inventory g) (Volume v)
      volume_first v h = (h.0, by)
        where
          by : (x : Lost) → GroupLacks inventory g x → is_gt (lost_cmp (Volume v) x) ≡ false
          by (Host x) e = absurd e
          by (Array x) e = absurd (no_array x e)
          by (Target x) e = absurd (no_target x e)
          by (Volume x) e = h.1 x e

      pub none_lost : ((v : List ℕ) → ¬ LacksVolume inventory g v) → (x : Lost) → ¬ GroupLacks inventory g x
      none_lost no_volume (Host x) e = e
      none_lost no_volume (Array x) e = no_array x e
      none_lost no_volume (Target x) e = no_target x e
      none_lost no_volume (Volume x) e = no_volume x e

-- ---- a group of a name
module _ (groups : StorageGroups) (n : List ℕ) (Lacks : StorageGroupRows → Lost → Type 0) where
  pub at_group : (g : StorageGroupRows) (o : Option Lost) → groups n ≡ Some g → IsFirstOf lost_cmp (Lacks g) o → IsFirstOf lost_cmp (λ x. HasAt groups (λ (h : StorageGroupRows). Lacks h x) n) o
  at_group g o at =
      least_as lost_cmp (Lacks g) (λ x. HasAt groups (λ (h : StorageGroupRows). Lacks h x) n) o
      (λ x e. (g, at, e)) (λ x w. subst (λ (h : StorageGroupRows). Lacks h x) (same_some w.1 at) w.2)

-- ---- rows
module _ (Lacks : ConfigRow → Lost → Type 0) where
  pub rows_none : IsFirstOf lost_cmp (Among Lacks []) None
  rows_none = least_none total Lacks

  pub rows_next : (xs : List ConfigRow) (i : ℕ) (k : ConfigRow) (a b o : Option Lost) → i < length xs → k ≡ get_or xs i k → o ≡ lesser lost_cmp a b → IsFirstOf lost_cmp (Among Lacks (take i xs)) a → IsFirstOf lost_cmp (Lacks k) b
      → IsFirstOf lost_cmp (Among Lacks (take (i + 1) xs)) o
  rows_next xs i k a b o h is made p q =
      subst (λ ys. IsFirstOf lost_cmp (Among Lacks ys) o) (next_is xs i k h is) (subst (IsFirstOf lost_cmp (Among Lacks (take i xs ++ k ∷ []))) (sym made) (least_more total Lacks (take i xs) k a b p q))

  pub rows_last : (xs : List ConfigRow) (i : ℕ) (a : Option Lost) → length xs ≤ i → IsFirstOf lost_cmp (Among Lacks (take i xs)) a → IsFirstOf lost_cmp (Among Lacks xs) a
  rows_last xs i a h p = subst (λ ys. IsFirstOf lost_cmp (Among Lacks ys) a) (take_all i xs h) p
