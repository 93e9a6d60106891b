-- What stands at a key, table by table, and lists of it.
use Rattle.std.proofs.Common.{◌≡◌, ℕ, List, Contains, Option, None, Some, true, inl, inr, refl, sym, ap, ◌∙◌, subst}
use mathlib.Core.Bool.{true≢false}
use Rattle.std.specs.declared.cmp.Ordering.{Ordering}
use Rattle.std.specs.Cmp.{IsTotalOrder}
use Rattle.std.specs.BTreeSet.{BTreeSet, contains}
use Rattle.std.specs.FinMap as map
use Rattle.std.specs.FinSet as set
use Rattle.std.specs.Option.{option_map}
use Rattle.std.proofs.lemmas.Map.Views.{btree_set_contains_iff}
use Rattle.fab_reach_base.specs.fab_names.declared.fabric.Fabric.{Fabric}
use Rattle.fab_reach_base.specs.fab_names.declared.member.Member.{Member}
use Rattle.fab_reach_base.specs.fab_names.Orders.{name_cmp, member_cmp}
use Rattle.fab_reach_base.proofs.fab_names.OrderLaws.{name_total, name_exact, member_total, member_exact}
use Rattle.fab_reach_base.specs.fab_lemmas.Lists.{IsListOf}
use Rattle.fab_reach_base.specs.fab_lemmas.MapsOfSets.{has, in_set, seen_set}
use Rattle.fab_reach_base.proofs.fab_lemmas.Filters.{list_as}
use Rattle.fab_reach_base.proofs.fab_lemmas.SeenSets.{listed_decides}
use Rattle.fab_reach_base.specs.fab_zoning.Zonings.{FabricZoning}
use Rattle.fab_reach_base.specs.fab_mapping.Mappings.{MappingRows}
use Rattle.fab_reach_base.specs.Adding.{Adds}
use Rattle.fab_reach_base.specs.Records.{ConfigRows, zoning_at}
use Rattle.fab_reach_base.proofs.Same.{same_some}
use Rattle.fab_store_rows.specs.declared.config_row.SettingRow.TheVariants as setting
use Rattle.fab_store_rows.specs.declared.config_row.ZoningItem.{ZoningItem}
use Rattle.fab_store_rows.specs.declared.config_row.ZoningItem.TheVariants as item
use Rattle.fab_store_rows.specs.declared.config_row.GroupRow.TheVariants as group
use Rattle.fab_store_rows.specs.declared.config_row.PartRow.TheVariants as parts
use Rattle.fab_store_rows.specs.declared.config_row.ConfigRow.{ConfigRow}
use Rattle.fab_store_rows.specs.declared.config_row.ConfigRow.TheVariants as config
use Rattle.fab_store_rows.specs.declared.row_key.RowKey.{RowKey}
use Rattle.fab_store_rows.specs.declared.row_key.RowKey.TheVariants.{Alias, Zone, ZoneSet, ActiveSet, DefaultZone, HostGroup, StorageGroup}
use Rattle.fab_store_rows.specs.RowOrder.{row_order}
use Rattle.fab_store_rows.specs.Standing.{HasItem, Stands}
use Rattle.fab_store_rows.specs.Differences.{StandsOnlyIn}
use Rattle.fab_store_rows.specs.Gathering.{Lacking, alias_row, zone_row, set_row}
use Rattle.fab_store_rows.specs.Keys.{item_key, key_of, key_cmp, HasKey}
use Rattle.fab_store_rows.specs.AtKeys.{RowOfAny, IsActiveSetRow, IsDefaultRow, IsHostGroupRowAt, IsStorageGroupRowAt, IsRowAt, IsRowAtSome}
use Rattle.fab_store_rows.proofs.OrderOfKeys.{key_total, key_exact}
use Rattle.fab_store_rows.proofs.RowLists.{bool_decided}
use Rattle.fab_store_rows.proofs.RowsGathered.{lacking_as}

module _ {K : Type 0} {R : K → K → Ordering} (o : IsTotalOrder R) (exact : set.IsAntisymmetric R) (row : K → ConfigRow) where
  -- the rows of the items of a set that may be there
  pub any_told : (w : Option ConfigRows) (t : Option (BTreeSet K)) (s : Option (set.FinSet R)) (old new : ConfigRow → Type 0) → option_map (seen_set R) t ≡ s
      → Adds (Lacking w (RowOfAny row t)) old new → Adds (Lacking w (λ r. (k : K) × (in_set s k ≡ true) × (r ≡ row k))) old new
  any_told w None s old new is =
      lacking_as w (RowOfAny row None) (λ r. (k : K) × (in_set s k ≡ true) × (r ≡ row k)) old new
      (λ r h. absurd h)
      (λ r h. absurd (true≢false (sym (ap (λ x. in_set x h.0) is ∙ h.1))))
  any_told w (Some t) s old new is =
      lacking_as w (RowOfAny row (Some t)) (λ r. (k : K) × (in_set s k ≡ true) × (r ≡ row k)) old new
      (λ r h. (h.0, ap (λ x. in_set x h.0) (sym is) ∙ (listed_decides o exact t.keys h.0).1 h.1, h.2))
      (λ r h. (h.0, (listed_decides o exact t.keys h.0).0 (ap (λ x. in_set x h.0) is ∙ h.1), h.2))

module _ (c : ConfigRows) where
  -- the rows at a key, by its kind
  abbrev pub AtKey : RowKey → ConfigRow → Type 0
  AtKey (Alias f n) r = (m : Member) × (has (zoning_at c f).aliases n m ≡ true) × (r ≡ alias_row f (n, m))
  AtKey (Zone f n) r = (m : Member) × (has (zoning_at c f).zones n m ≡ true) × (r ≡ zone_row f (n, m))
  AtKey (ZoneSet f n) r = (z : List ℕ) × (has (zoning_at c f).sets n z ≡ true) × (r ≡ set_row f (n, z))
  AtKey (ActiveSet f) r = IsActiveSetRow f (zoning_at c f) r
  AtKey (DefaultZone f) r = IsDefaultRow f (zoning_at c f) r
  AtKey (HostGroup n) r = IsHostGroupRowAt n c.mapping r
  AtKey (StorageGroup n) r = IsStorageGroupRowAt n c.mapping r

  item_at : (f : Fabric) (x : ZoningItem) → HasItem (zoning_at c f) x → AtKey (item_key f x) (config.Zoning (record { fabric = f; item = x }))
  item_at f (item.Alias n m) h = (m, h, refl)
  item_at f (item.Zone n m) h = (m, h, refl)
  item_at f (item.Set n z) h = (z, h, refl)

  -- what stands is at its key
  stands_at : (r : ConfigRow) → Stands c r → AtKey (key_of r) r
  stands_at (config.Setting (setting.ActiveSet f n)) h = inr (ap (λ x. config.Setting (setting.ActiveSet f x)) (sym h))
  stands_at (config.Setting (setting.DefaultZone f p)) h = ap (λ x. config.Setting (setting.DefaultZone f x)) (sym h)
  stands_at (config.Zoning r) h = item_at r.fabric r.item h
  stands_at (config.Active r) h = inl (r.zone, r.member, h, refl)
  stands_at (config.Group (group.Host r)) h = (h.0, h.1, inl (λ i. config.Group (group.Host (record { name = r.name; tenant = sym h.2.tenant i }))))
  stands_at (config.Group (group.Storage r)) h = (h.0, h.1, inl (λ i. config.Group (group.Storage (record { name = r.name; tenant = sym h.2.tenant i; array = sym h.2.array i; exposed = sym h.2.exposed i }))))
  stands_at (config.Part (parts.Host n x)) h = (h.0, h.1, inr (x, h.2, refl))
  stands_at (config.Part (parts.Storage n p)) h = (h.0, h.1, inr (p, h.2, refl))

  -- and what is at a key stands, and has it
  at_stands : (k : RowKey) (r : ConfigRow) → AtKey k r → IsRowAt c k r
  at_stands (Alias f n) r h = subst (IsRowAt c (Alias f n)) (sym h.2) (refl, h.1)
  at_stands (Zone f n) r h = subst (IsRowAt c (Zone f n)) (sym h.2) (refl, h.1)
  at_stands (ZoneSet f n) r h = subst (IsRowAt c (ZoneSet f n)) (sym h.2) (refl, h.1)
  at_stands (ActiveSet f) r h = elim h [ inl a ↦ subst (IsRowAt c (ActiveSet f)) (sym a.3) (refl, a.2) | inr e ↦ subst (IsRowAt c (ActiveSet f)) (sym e) (refl, refl) ]
  at_stands (DefaultZone f) r h = subst (IsRowAt c (DefaultZone f)) (sym h) (refl, refl)
  at_stands (HostGroup n) r h = elim h.2 [
    | inl e ↦ subst (IsRowAt c (HostGroup n)) (sym e) (refl, (h.0, h.1, record { tenant = refl }))
    | inr p ↦ subst (IsRowAt c (HostGroup n)) (sym p.2) (refl, (h.0, h.1, p.1))
  ]
  at_stands (StorageGroup n) r h = elim h.2 [
    | inl e ↦ subst (IsRowAt c (StorageGroup n)) (sym e) (refl, (h.0, h.1, record { tenant = refl; array = refl; exposed = refl }))
    | inr p ↦ subst (IsRowAt c (StorageGroup n)) (sym p.2) (refl, (h.0, h.1, p.1))
  ]

  -- the rows that were added by the key's kind are those that stand at it
  pub at_key : (k : RowKey) (w : Option ConfigRows) (old new : ConfigRow → Type 0) → Adds (Lacking w (AtKey k)) old new → Adds (Lacking w (IsRowAt c k)) old new
  at_key k w old new = lacking_as w (AtKey k) (IsRowAt c k) old new (at_stands k) (λ r h. subst (λ x. AtKey x r) h.0 (stands_at r h.1))

  -- the sets of a fabric, as they are lent
  pub alias_rows : (w : Option ConfigRows) (f : Fabric) (n : List ℕ) (t : Option (BTreeSet Member)) (v : FabricZoning) (k : RowKey) (old new : ConfigRow → Type 0) → k ≡ Alias f n → v ≡ zoning_at c f → option_map (seen_set member_cmp) t ≡ map.get v.aliases n
      → Adds (Lacking w (RowOfAny (λ m. alias_row f (n, m)) t)) old new → Adds (Lacking w (IsRowAt c k)) old new
  alias_rows w f n t v k old new is of at a =
      subst (λ x. Adds (Lacking w (IsRowAt c x)) old new) (sym is) (at_key (Alias f n) w old new
      (any_told member_total member_exact (λ m. alias_row f (n, m)) w t (map.get (zoning_at c f).aliases n) old new (at ∙ ap (λ (x : FabricZoning). map.get x.aliases n) of) a))

  pub zone_rows : (w : Option ConfigRows) (f : Fabric) (n : List ℕ) (t : Option (BTreeSet Member)) (v : FabricZoning) (k : RowKey) (old new : ConfigRow → Type 0) → k ≡ Zone f n → v ≡ zoning_at c f → option_map (seen_set member_cmp) t ≡ map.get v.zones n
      → Adds (Lacking w (RowOfAny (λ m. zone_row f (n, m)) t)) old new → Adds (Lacking w (IsRowAt c k)) old new
  zone_rows w f n t v k old new is of at a =
      subst (λ x. Adds (Lacking w (IsRowAt c x)) old new) (sym is) (at_key (Zone f n) w old new
      (any_told member_total member_exact (λ m. zone_row f (n, m)) w t (map.get (zoning_at c f).zones n) old new (at ∙ ap (λ (x : FabricZoning). map.get x.zones n) of) a))

  pub set_rows : (w : Option ConfigRows) (f : Fabric) (n : List ℕ) (t : Option (BTreeSet (List ℕ))) (v : FabricZoning) (k : RowKey) (old new : ConfigRow → Type 0) → k ≡ ZoneSet f n → v ≡ zoning_at c f → option_map (seen_set name_cmp) t ≡ map.get v.sets n
      → Adds (Lacking w (RowOfAny (λ z. set_row f (n, z)) t)) old new → Adds (Lacking w (IsRowAt c k)) old new
  set_rows w f n t v k old new is of at a =
      subst (λ x. Adds (Lacking w (IsRowAt c x)) old new) (sym is) (at_key (ZoneSet f n) w old new
      (any_told name_total name_exact (λ z. set_row f (n, z)) w t (map.get (zoning_at c f).sets n) old new (at ∙ ap (λ (x : FabricZoning). map.get x.sets n) of) a))

  -- the groups of the mapping that was lent
  pub host_group_rows : (w : Option ConfigRows) (n : List ℕ) (m : MappingRows) (k : RowKey) (old new : ConfigRow → Type 0) → k ≡ HostGroup n → m ≡ c.mapping → Adds (Lacking w (IsHostGroupRowAt n m)) old new → Adds (Lacking w (IsRowAt c k)) old new
  host_group_rows w n m k old new is of a =
      subst (λ x. Adds (Lacking w (IsRowAt c x)) old new) (sym is) (at_key (HostGroup n) w old new (subst (λ (x : MappingRows). Adds (Lacking w (IsHostGroupRowAt n x)) old new) of a))

  pub storage_group_rows : (w : Option ConfigRows) (n : List ℕ) (m : MappingRows) (k : RowKey) (old new : ConfigRow → Type 0) → k ≡ StorageGroup n → m ≡ c.mapping → Adds (Lacking w (IsStorageGroupRowAt n m)) old new → Adds (Lacking w (IsRowAt c k)) old new
  storage_group_rows w n m k old new is of a =
      subst (λ x. Adds (Lacking w (IsRowAt c x)) old new) (sym is) (at_key (StorageGroup n) w old new (subst (λ (x : MappingRows). Adds (Lacking w (IsStorageGroupRowAt n x)) old new) of a))

-- the rows of a group that was found
pub found_told : {X : Type 0} (P : X → ConfigRow → Type 0) (w : Option ConfigRows) (o : Option X) (x : X) (old new : ConfigRow → Type 0) → o ≡ Some x → Adds (Lacking w (P x)) old new → Adds (Lacking w (λ r. (y : X) × (o ≡ Some y) × P y r)) old new
found_told {X} P w o x old new at = lacking_as w (P x) (λ r. (y : X) × (o ≡ Some y) × P y r) old new (λ r h. (x, at, h)) (λ r h. subst (λ y. P y r) (same_some h.1 at) h.2)

-- of two configurations that agree elsewhere, the rows at the keys tell what stands in one only
pub at_keys_listed : (s : BTreeSet RowKey) (c d : ConfigRows) (xs : List ConfigRow) → ((r : ConfigRow) → ¬ HasKey s (key_of r) → Stands c r → Stands d r)
    → IsListOf row_order (Lacking (Some d) (IsRowAtSome c s.keys)) xs → IsListOf row_order (StandsOnlyIn c d) xs
at_keys_listed s c d xs agree =
    list_as (Lacking (Some d) (IsRowAtSome c s.keys)) (StandsOnlyIn c d) xs
    (λ r h. record { there = h.0.2.1; not_there = h.1 })
    (λ r h. ((key_of r, at r h, (refl, h.there)), h.not_there))
  where
    at : (r : ConfigRow) → StandsOnlyIn c d r → Contains s.keys (key_of r)
    at r h = elim (bool_decided (contains key_cmp s (key_of r))) [
      | inl e ↦ (btree_set_contains_iff key_total key_exact s (key_of r)).0 e
      | inr no_key ↦ absurd (h.not_there (agree r no_key h.there))
    ]
