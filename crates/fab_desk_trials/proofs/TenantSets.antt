-- Sets of tenants that grow.
use Rattle.std.proofs.Common.{◌≡◌, ℕ, List, true, cond, Some, ◌⊎◌, inl, inr, sym, ap, ◌∙◌}
use Rattle.std.specs.BTreeMap.{is_at}
use Rattle.std.specs.BTreeSet.{BTreeSet, contains}
use Rattle.std.specs.FinMap as map
use Rattle.fab_reach_base.specs.fab_names.Orders.{name_cmp}
use Rattle.fab_reach_base.proofs.fab_names.OrderLaws.{name_total, name_exact}
use Rattle.fab_reach_base.specs.fab_inventory.declared.holder.Holder.{Holder}
use Rattle.fab_reach_base.specs.fab_inventory.declared.holder.HolderKind.{HolderKind}
use Rattle.fab_reach_base.specs.fab_inventory.declared.holder.Volume.{Volume}
use Rattle.fab_reach_base.specs.fab_inventory.Inventories.{InventoryRows}
use Rattle.fab_reach_base.specs.fab_mapping_base.Groups.{HostGroupRows, StorageGroupRows}
use Rattle.fab_reach_base.specs.fab_mapping.Mappings.{MappingRows}
use Rattle.fab_reach_base.specs.Adding.{Adds}
use Rattle.fab_reach_base.proofs.Adding.{adds_as}
use Rattle.fab_reach_base.proofs.Same.{same_some}
use Rattle.fab_reach_base.proofs.Sets.{adds_insert}
use Rattle.fab_desk_base.specs.Tenants.{Has, IsHolderOf, IsVolumeOf, IsHostGroupOf, IsGroupOf}

-- a name was inserted
abbrev pub Inserts : BTreeSet (List ℕ) → BTreeSet (List ℕ) → List ℕ → Type 0
Inserts s t n = (q : List ℕ) → contains name_cmp t q ≡ cond (is_at (name_cmp n) q) true (contains name_cmp s q)

-- the tenant of a holder was inserted
pub holder_added : (v : InventoryRows) (k : HolderKind) (n : List ℕ) (h : Holder) (s t : BTreeSet (List ℕ)) → map.get v.holders n ≡ Some h → h.kind ≡ k → Inserts s t h.tenant → Adds (IsHolderOf v k n) (Has s) (Has t)
holder_added v k n h s t there is u = adds_as (λ y. y ≡ h.tenant) (IsHolderOf v k n) (Has s) (Has t)
    (λ y e. there ∙ (λ i. Some (record { kind = is i; tenant = sym e i })))
    (λ y g. ap (λ (x : Holder). x.tenant) (same_some g there))
    (adds_insert name_total name_exact s t h.tenant u)

-- the tenant of a volume was inserted
pub volume_added : (v : InventoryRows) (n : List ℕ) (x : Volume) (s t : BTreeSet (List ℕ)) → map.get v.volumes n ≡ Some x → Inserts s t x.tenant → Adds (IsVolumeOf v n) (Has s) (Has t)
volume_added v n x s t there u = adds_as (λ y. y ≡ x.tenant) (IsVolumeOf v n) (Has s) (Has t)
    (λ y e. (x, there, sym e))
    (λ y g. sym g.2 ∙ ap (λ (z : Volume). z.tenant) (same_some g.1 there))
    (adds_insert name_total name_exact s t x.tenant u)

-- the tenant of a host group was inserted
pub host_group_added : (m : MappingRows) (n u : List ℕ) (x : HostGroupRows) (s t : BTreeSet (List ℕ)) → map.get m.host_groups n ≡ Some x → u ≡ x.tenant → Inserts s t u → Adds (IsHostGroupOf m n) (Has s) (Has t)
host_group_added m n u x s t there is i = adds_as (λ y. y ≡ u) (IsHostGroupOf m n) (Has s) (Has t)
    (λ y e. (x, there, sym is ∙ sym e))
    (λ y g. sym g.2 ∙ ap (λ (z : HostGroupRows). z.tenant) (same_some g.1 there) ∙ sym is)
    (adds_insert name_total name_exact s t u i)

-- the tenant of a storage group was inserted
pub group_added : (m : MappingRows) (n u : List ℕ) (x : StorageGroupRows) (s t : BTreeSet (List ℕ)) → map.get m.groups n ≡ Some x → u ≡ x.tenant → Inserts s t u → Adds (IsGroupOf m n) (Has s) (Has t)
group_added m n u x s t there is i = adds_as (λ y. y ≡ u) (IsGroupOf m n) (Has s) (Has t)
    (λ y e. (x, there, sym is ∙ sym e))
    (λ y g. sym g.2 ∙ ap (λ (z : StorageGroupRows). z.tenant) (same_some g.1 there) ∙ sym is)
    (adds_insert name_total name_exact s t u i)

-- two kinds were added, one after the other
pub both_added : {Y : Type 0} (P Q a b c : Y → Type 0) → Adds P a b → Adds Q b c → Adds (λ y. P y ⊎ Q y) a c
both_added P Q a b c p q = record {
  sound = λ y h. elim (q.sound y h) [ inl m ↦ elim (p.sound y m) [ inl o ↦ inl o | inr x ↦ inr (inl x) ] | inr x ↦ inr (inr x) ];
  kept = λ y h. q.kept y (p.kept y h);
  there = λ y h. elim h [ inl x ↦ q.kept y (p.there y x) | inr x ↦ q.there y x ];
}
