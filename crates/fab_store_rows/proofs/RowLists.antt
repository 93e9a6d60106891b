-- Lists of rows, and sets of rows that grow and shrink.
use Rattle.std.proofs.Common.{◌≡◌, ℕ, List, [], Option, None, Some, Bool, true, false, ◌⊎◌, inl, inr, refl, sym, ap, subst, nat_eq}
use mathlib.Core.Bool.{true≢false}
use Rattle.std.specs.declared.cmp.Ordering.{Ordering}
use Rattle.std.specs.Cmp.Lexicographic.{bytes_decides, pointwise}
use Rattle.std.specs.BTreeSet.{BTreeSet, IsOrdered}
use Rattle.std.specs.FinMap as map
use Rattle.std.specs.FinSet as set
use Rattle.std.specs.List.Sorted.{IsStrictlySortedBy}
use Rattle.std.proofs.lemmas.Map.Views.{btree_set_contains_iff}
use Rattle.fab_reach_base.specs.fab_lemmas.Lists.{IsListOf}
use Rattle.fab_reach_base.specs.fab_lemmas.MapsOfSets.{has}
use Rattle.fab_reach_base.proofs.fab_lemmas.Filters.{list_as}
use Rattle.fab_reach_base.specs.fab_zoning.Zonings.{FabricZoning, permits}
use Rattle.fab_reach_base.specs.fab_mapping_base.Groups.{HostGroupRows, StorageGroupRows}
use Rattle.fab_reach_base.specs.Adding.{Adds}
use Rattle.fab_reach_base.specs.Records.{ConfigRows, zoning_at}
use Rattle.fab_reach_base.proofs.Adding.{from_none}
use Rattle.fab_reach_base.proofs.Sets.{none_in}
use Rattle.fab_store_rows.specs.declared.config_row.SettingRow.{SettingRow}
use Rattle.fab_store_rows.specs.declared.config_row.SettingRow.TheVariants.{ActiveSet, DefaultZone}
use Rattle.fab_store_rows.specs.declared.config_row.ZoningItem.{ZoningItem}
use Rattle.fab_store_rows.specs.declared.config_row.ZoningItem.TheVariants.{Alias, Zone, Set}
use Rattle.fab_store_rows.specs.declared.config_row.HostGroupRow.{HostGroupRow}
use Rattle.fab_store_rows.specs.declared.config_row.StorageGroupRow.{StorageGroupRow}
use Rattle.fab_store_rows.specs.declared.config_row.GroupRow.TheVariants as group
use Rattle.fab_store_rows.specs.declared.config_row.StoragePart.{StoragePart}
use Rattle.fab_store_rows.specs.declared.config_row.StoragePart.TheVariants as part
use Rattle.fab_store_rows.specs.declared.config_row.PartRow.TheVariants as parts
use Rattle.fab_store_rows.specs.declared.config_row.ConfigRow.{ConfigRow}
use Rattle.fab_store_rows.specs.declared.config_row.ConfigRow.TheVariants as config
use Rattle.fab_store_rows.specs.RowOrder.{row_cmp, row_order}
use Rattle.fab_store_rows.specs.Standing.{IsSetting, HasItem, IsHostHead, IsStorageHead, HasPart, Stands}
use Rattle.fab_store_rows.specs.Differences.{StandsOnlyIn}
use Rattle.fab_store_rows.specs.Gathering.{Has, Lacking}
use Rattle.fab_store_rows.specs.OrderOfRows.{row_total, row_exact, same_order}

-- ---- a set as a list

pub set_listed : (P : ConfigRow → Type 0) (t : BTreeSet ConfigRow) (xs : List ConfigRow) → IsOrdered row_cmp t → xs ≡ t.keys → ((r : ConfigRow) → (Has t r → P r) × (P r → Has t r)) → IsListOf row_order P xs
set_listed P t xs ordered is all = subst (IsListOf row_order P) (sym is) (record {
  sorted = subst (λ (O : ConfigRow → ConfigRow → Ordering). IsStrictlySortedBy O t.keys) same_order ordered;
  sound = λ r h. (all r).0 ((btree_set_contains_iff row_total row_exact t r).1 h);
  complete = λ r h. (btree_set_contains_iff row_total row_exact t r).0 ((all r).1 h);
})

-- a set that was filled from nothing
pub filled_listed : (P : ConfigRow → Type 0) (s t : BTreeSet ConfigRow) (xs : List ConfigRow) → s.keys ≡ [] → IsOrdered row_cmp t → xs ≡ t.keys → Adds P (Has s) (Has t) → IsListOf row_order P xs
filled_listed P s t xs none ordered is a = set_listed P t xs ordered is (from_none P (Has s) (Has t) (none_in row_total row_exact s none) a)

-- where nothing is left out
pub all_listed : (c : ConfigRows) (xs : List ConfigRow) → IsListOf row_order (Lacking None (Stands c)) xs → IsListOf row_order (Stands c) xs
all_listed c xs l = list_as (Lacking None (Stands c)) (Stands c) xs (λ r h. h.0) (λ r h. (h, tt)) l

-- where another configuration's rows are
pub only_listed : (c d : ConfigRows) (xs : List ConfigRow) → IsListOf row_order (Lacking (Some d) (Stands c)) xs → IsListOf row_order (StandsOnlyIn c d) xs
only_listed c d xs l = list_as (Lacking (Some d) (Stands c)) (StandsOnlyIn c d) xs (λ r h. record { there = h.0; not_there = h.1 }) (λ r h. (h.there, h.not_there)) l

-- ---- a row stands, or it does not

abbrev pub Decided : Type 0 → Type 0
Decided P = P ⊎ (P → ⊥)

pub bool_decided : (b : Bool) → Decided (b ≡ true)
bool_decided true = inl refl
bool_decided false = inr (λ e. true≢false (sym e))

bools_decided : (p q : Bool) → Decided (p ≡ q)
bools_decided true true = inl refl
bools_decided true false = inr true≢false
bools_decided false true = inr (λ e. true≢false (sym e))
bools_decided false false = inl refl

names_decided : (a b : List ℕ) → Decided (a ≡ b)
names_decided a b = elim (bool_decided (pointwise nat_eq a b)) [ inl e ↦ inl ((bytes_decides a b).0 e) | inr n ↦ inr (λ e. n ((bytes_decides a b).1 e)) ]

options_decided : (a b : Option (List ℕ)) → Decided (a ≡ b)
options_decided None None = inl refl
options_decided None (Some y) = inr (λ e. absurd cc)
options_decided (Some x) None = inr (λ e. absurd cc)
options_decided (Some x) (Some y) = elim (names_decided x y) [ inl e ↦ inl (ap Some e) | inr n ↦ inr (λ e. n cc) ]

both_decided : (P Q : Type 0) → Decided P → Decided Q → Decided (P × Q)
both_decided P Q p q = elim p [ inl a ↦ elim q [ inl b ↦ inl (a, b) | inr n ↦ inr (λ h. n h.1) ] | inr n ↦ inr (λ h. n h.0) ]

found_decided : {X : Type 0} (P : X → Type 0) (o : Option X) → ((x : X) → Decided (P x)) → Decided ((x : X) × (o ≡ Some x) × P x)
found_decided {X} P None d = inr (λ h. let e : ◌≡◌ {A = Option X} None (Some h.0) = h.1 in absurd cc)
found_decided P (Some y) d = elim (d y) [ inl p ↦ inl (y, refl, p) | inr n ↦ inr (λ h. let e : y ≡ h.0 = one y h.0 h.1 in n (subst P (sym e) h.2)) ]
  where
    one : {X : Type 0} (a b : X) → Some a ≡ Some b → a ≡ b
    one a b e = cc

host_head_decided : (r : HostGroupRow) (g : HostGroupRows) → Decided (IsHostHead r g)
host_head_decided r g = elim (names_decided g.tenant r.tenant) [ inl e ↦ inl (record { tenant = e }) | inr n ↦ inr (λ h. n h.tenant) ]

storage_head_decided : (r : StorageGroupRow) (g : StorageGroupRows) → Decided (IsStorageHead r g)
storage_head_decided r g =
    elim (both_decided (g.tenant ≡ r.tenant) ((g.array ≡ r.array) × (g.exposed ≡ r.exposed)) (names_decided g.tenant r.tenant)
    (both_decided (g.array ≡ r.array) (g.exposed ≡ r.exposed) (names_decided g.array r.array) (bools_decided g.exposed r.exposed))) [
      | inl h ↦ inl (record { tenant = h.0; array = h.1.0; exposed = h.1.1 })
      | inr n ↦ inr (λ h. n (h.tenant, (h.array, h.exposed)))
    ]

part_decided : (p : StoragePart) (g : StorageGroupRows) → Decided (HasPart p g)
part_decided (part.HostGroup k) g = bool_decided (set.contains g.host_groups k)
part_decided (part.Target q) g = bool_decided (set.contains g.targets q)
part_decided (part.Unit u v) g = options_decided (map.get g.units u) (Some v)

item_decided : (v : FabricZoning) (x : ZoningItem) → Decided (HasItem v x)
item_decided v (Alias n m) = bool_decided (has v.aliases n m)
item_decided v (Zone n m) = bool_decided (has v.zones n m)
item_decided v (Set n z) = bool_decided (has v.sets n z)

setting_decided : (c : ConfigRows) (r : SettingRow) → Decided (IsSetting c r)
setting_decided c (ActiveSet f n) = options_decided (zoning_at c f).active n
setting_decided c (DefaultZone f p) = bools_decided (permits (zoning_at c f).flag) p

pub stands_decided : (c : ConfigRows) (r : ConfigRow) → Decided (Stands c r)
stands_decided c (config.Setting r) = setting_decided c r
stands_decided c (config.Zoning r) = item_decided (zoning_at c r.fabric) r.item
stands_decided c (config.Active r) = bool_decided (set.contains (zoning_at c r.fabric).rows (r.zone, r.member))
stands_decided c (config.Group (group.Host r)) = found_decided (IsHostHead r) (map.get c.mapping.host_groups r.name) (host_head_decided r)
stands_decided c (config.Group (group.Storage r)) = found_decided (IsStorageHead r) (map.get c.mapping.groups r.name) (storage_head_decided r)
stands_decided c (config.Part (parts.Host n x)) = found_decided (λ (g : HostGroupRows). set.contains g.hosts x ≡ true) (map.get c.mapping.host_groups n) (λ g. bool_decided (set.contains g.hosts x))
stands_decided c (config.Part (parts.Storage n p)) = found_decided (HasPart p) (map.get c.mapping.groups n) (part_decided p)
