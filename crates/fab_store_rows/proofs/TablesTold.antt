-- What the loops have gathered is what stands.
use Rattle.std.proofs.Common.{◌≡◌, ℕ, List, Contains, Option, Some, true, ◌⊎◌, inl, inr, refl, sym, ap, ◌∙◌, subst}
use Rattle.std.specs.declared.cmp.Ordering.{Ordering}
use Rattle.std.specs.Cmp.{IsTotalOrder}
use Rattle.std.specs.BTreeSet.{BTreeSet}
use Rattle.std.specs.FinMap as map
use Rattle.std.specs.FinSet as set
use Rattle.std.specs.Map.{keys_of}
use Rattle.std.specs.List.Sorted.{IsStrictlySortedBy}
use Rattle.fab_reach_base.specs.fab_names.declared.fabric.Fabric.{Fabric}
use Rattle.fab_reach_base.specs.fab_names.declared.fabric.Fabric.TheVariants.{A, B}
use Rattle.fab_reach_base.specs.fab_names.declared.member.Member.{Member}
use Rattle.fab_reach_base.proofs.fab_names.OrderLaws.{name_total, name_exact}
use Rattle.fab_reach_base.specs.fab_lemmas.MapsOfSets.{MapOfSets, seen_sets, has}
use Rattle.fab_reach_base.proofs.fab_lemmas.SeenEntries.{entry_decides}
use Rattle.fab_reach_base.proofs.fab_lemmas.SeenSets.{listed_decides}
use Rattle.fab_reach_base.specs.fab_zoning_rows.Views.{seen_rows}
use Rattle.fab_reach_base.specs.fab_zoning.Zonings.{FabricZoning}
use Rattle.fab_reach_base.specs.fab_mapping_base.Groups.{HostGroupRows, StorageGroupRows}
use Rattle.fab_reach_base.specs.fab_mapping.Mappings.{MappingRows}
use Rattle.fab_reach_base.specs.Adding.{Adds}
use Rattle.fab_reach_base.specs.Records.{ConfigRows, zoning_at}
use Rattle.fab_store_rows.specs.declared.config_row.SettingRow.TheVariants.{ActiveSet, DefaultZone}
use Rattle.fab_store_rows.specs.declared.config_row.ZoningItem.{ZoningItem}
use Rattle.fab_store_rows.specs.declared.config_row.ZoningItem.TheVariants.{Alias, Zone, Set}
use Rattle.fab_store_rows.specs.declared.config_row.GroupRow.TheVariants as group
use Rattle.fab_store_rows.specs.declared.config_row.StoragePart.{StoragePart}
use Rattle.fab_store_rows.specs.declared.config_row.StoragePart.TheVariants as part
use Rattle.fab_store_rows.specs.declared.config_row.PartRow.TheVariants as parts
use Rattle.fab_store_rows.specs.declared.config_row.ConfigRow.{ConfigRow}
use Rattle.fab_store_rows.specs.declared.config_row.ConfigRow.TheVariants as config
use Rattle.fab_store_rows.specs.Standing.{HasItem, HasPart, Stands}
use Rattle.fab_store_rows.specs.Gathering.{Lacking, RowOfSome, RowOfSets, active_row, host_row, host_group_row, target_row, unit_row, host_head_row, storage_head_row, IsAliasRow, IsZoneRow, IsSetRow, IsActiveRow, IsDefinitionRow, IsSettingRow, IsFabricRow, IsHostGroupRow, IsStorageGroupRow, IsHostGroupsRow, IsStorageGroupsRow}
use Rattle.fab_store_rows.proofs.SetsTold.{has_listed, listed_has, active_listed, listed_active}
use Rattle.fab_store_rows.proofs.RowsGathered.{lacking_as, lacking_both, same_row}

-- ---- one table

module _ {Q K : Type 0} {O : Q → Q → Ordering} (o : IsTotalOrder O) (exact : set.IsAntisymmetric O) {R : K → K → Ordering} (r : IsTotalOrder R) (r_exact : set.IsAntisymmetric R) (row : Q → K → ConfigRow) where
  -- the rows of the items that a map of sets has
  pub sets_told : (w : Option ConfigRows) (es : List (Q × BTreeSet K)) (m : MapOfSets O R) (old new : ConfigRow → Type 0) → seen_sets O R es ≡ m → IsStrictlySortedBy O (keys_of es)
      → Adds (Lacking w (RowOfSets row es)) old new → Adds (Lacking w (λ x. (q : Q) × (k : K) × (has m q k ≡ true) × (x ≡ row q k))) old new
  sets_told w es m old new is sorted =
      lacking_as w (RowOfSets row es) (λ x. (q : Q) × (k : K) × (has m q k ≡ true) × (x ≡ row q k)) old new
      (λ x h. (h.0.0, h.2.0, has_listed o exact r r_exact es m h.0 h.2.0 is sorted h.1 h.2.1, h.2.2))
      (λ x h. let l = listed_has o exact r r_exact es m h.0 h.1 is h.2 in ((h.0, l.0), l.1, (h.1, l.2, h.3)))

-- the rows of the active set
pub active_told : (w : Option ConfigRows) (f : Fabric) (v : FabricZoning) (es : List (Member × BTreeSet (List ℕ))) (old new : ConfigRow → Type 0) → seen_rows es ≡ v.rows
    → Adds (Lacking w (RowOfSets (λ m z. active_row f (z, m)) es)) old new → Adds (Lacking w (IsActiveRow f v)) old new
active_told w f v es old new is =
    lacking_as w (RowOfSets (λ m z. active_row f (z, m)) es) (IsActiveRow f v) old new
    (λ x h. (h.2.0, h.0.0, active_listed es v.rows h.0 h.2.0 is h.1 h.2.1, h.2.2))
    (λ x h. let l = listed_active es v.rows h.0 h.1 is h.2 in ((h.1, l.0), l.1, (h.0, l.2, h.3)))

module _ {K : Type 0} {R : K → K → Ordering} (o : IsTotalOrder R) (exact : set.IsAntisymmetric R) (row : K → ConfigRow) where
  -- the rows of the items of a set
  pub items_told : (w : Option ConfigRows) (xs : List K) (s : set.FinSet R) (old new : ConfigRow → Type 0) → set.from_list xs ≡ s → Adds (Lacking w (RowOfSome row xs)) old new → Adds (Lacking w (λ x. (k : K) × (set.contains s k ≡ true) × (x ≡ row k))) old new
  items_told w xs s old new is =
      lacking_as w (RowOfSome row xs) (λ x. (k : K) × (set.contains s k ≡ true) × (x ≡ row k)) old new
      (λ x h. (h.0, ap (λ y. set.contains y h.0) (sym is) ∙ (listed_decides o exact xs h.0).1 h.1, h.2))
      (λ x h. (h.0, (listed_decides o exact xs h.0).0 (ap (λ y. set.contains y h.0) is ∙ h.1), h.2))

module _ {K X : Type 0} {R : K → K → Ordering} (o : IsTotalOrder R) (exact : set.IsAntisymmetric R) (P : K × X → ConfigRow → Type 0) where
  -- the rows of the entries of a map
  pub entries_told : (w : Option ConfigRows) (es : List (K × X)) (m : map.FinMap R X) (old new : ConfigRow → Type 0) → es ≡ map.entries m
      → Adds (Lacking w (λ x. (e : K × X) × Contains es e × P e x)) old new → Adds (Lacking w (λ x. (k : K) × (v : X) × (map.get m k ≡ Some v) × P (k, v) x)) old new
  entries_told w es m old new is =
      lacking_as w (λ x. (e : K × X) × Contains es e × P e x) (λ x. (k : K) × (v : X) × (map.get m k ≡ Some v) × P (k, v) x) old new
      (λ x h. (h.0.0, h.0.1, (entry_decides R o exact m h.0.0 h.0.1).1 (subst (λ ys. Contains ys h.0) is h.1), h.2))
      (λ x h. ((h.0, h.1), subst (λ ys. Contains ys (h.0, h.1)) (sym is) ((entry_decides R o exact m h.0 h.1).0 h.2), h.3))

-- ---- a fabric

pub definitions_told : (w : Option ConfigRows) (f : Fabric) (v : FabricZoning) (s t u x : ConfigRow → Type 0) → Adds (Lacking w (IsAliasRow f v)) s t → Adds (Lacking w (IsZoneRow f v)) t u → Adds (Lacking w (IsSetRow f v)) u x → Adds (Lacking w (IsDefinitionRow f v)) s x
definitions_told w f v s t u x a b c =
    lacking_both w (IsAliasRow f v) (λ r. IsZoneRow f v r ⊎ IsSetRow f v r) s t x a (lacking_both w (IsZoneRow f v) (IsSetRow f v) t u x b c)

pub fabric_told : (w : Option ConfigRows) (f : Fabric) (v : FabricZoning) (s t u x : ConfigRow → Type 0) → Adds (Lacking w (IsDefinitionRow f v)) s t → Adds (Lacking w (IsActiveRow f v)) t u → Adds (Lacking w (IsSettingRow f v)) u x → Adds (Lacking w (IsFabricRow f v)) s x
fabric_told w f v s t u x a b c =
    lacking_both w (IsDefinitionRow f v) (λ r. IsActiveRow f v r ⊎ IsSettingRow f v r) s t x a (lacking_both w (IsActiveRow f v) (IsSettingRow f v) t u x b c)

-- ---- a host group

pub host_group_told : (w : Option ConfigRows) (n : List ℕ) (g : HostGroupRows) (tenant : List ℕ) (hs : List (List ℕ)) (s t u : ConfigRow → Type 0) → tenant ≡ g.tenant → set.from_list hs ≡ g.hosts
    → Adds (Lacking w (λ r. r ≡ config.Group (group.Host (record { name = n; tenant = tenant })))) s t → Adds (Lacking w (RowOfSome (λ h. host_row (n, h)) hs)) t u → Adds (Lacking w (IsHostGroupRow n g)) s u
host_group_told w n g tenant hs s t u whose is a b =
    lacking_both w (λ r. r ≡ host_head_row n g) (λ r. (h : List ℕ) × (set.contains g.hosts h ≡ true) × (r ≡ host_row (n, h))) s t u
    (same_row w (config.Group (group.Host (record { name = n; tenant = tenant }))) (host_head_row n g) s t (λ i. config.Group (group.Host (record { name = n; tenant = whose i }))) a)
    (items_told name_total name_exact (λ h. host_row (n, h)) w hs g.hosts t u is b)

-- ---- a storage group

module _ (w : Option ConfigRows) (n : List ℕ) (g : StorageGroupRows) where
  abbrev HostGroupPart : ConfigRow → Type 0
  HostGroupPart r = (k : List ℕ) × (set.contains g.host_groups k ≡ true) × (r ≡ host_group_row (n, k))

  abbrev TargetPart : ConfigRow → Type 0
  TargetPart r = (q : ℕ) × (set.contains g.targets q ≡ true) × (r ≡ target_row (n, q))

  abbrev UnitPart : ConfigRow → Type 0
  UnitPart r = (u : ℕ) × (v : List ℕ) × (map.get g.units u ≡ Some v) × (r ≡ unit_row n (u, v))

  abbrev InParts : ConfigRow → Type 0
  InParts r = (r ≡ storage_head_row n g) ⊎ (HostGroupPart r ⊎ (TargetPart r ⊎ UnitPart r))

  to_group : (r : ConfigRow) → InParts r → IsStorageGroupRow n g r
  to_group r h = elim h [
    | inl e ↦ inl e
    | inr h ↦ elim h [
      | inl a ↦ inr (part.HostGroup a.0, a.1, a.2)
      | inr h ↦ elim h [
        | inl b ↦ inr (part.Target b.0, b.1, b.2)
        | inr c ↦ inr (part.Unit c.0 c.1, c.2, c.3)
      ]
    ]
  ]

  to_part : (p : StoragePart) (r : ConfigRow) → HasPart p g → r ≡ config.Part (parts.Storage n p) → InParts r
  to_part (part.HostGroup k) r h e = inr (inl (k, h, e))
  to_part (part.Target q) r h e = inr (inr (inl (q, h, e)))
  to_part (part.Unit u v) r h e = inr (inr (inr (u, v, h, e)))

  to_parts : (r : ConfigRow) → IsStorageGroupRow n g r → InParts r
  to_parts r h = elim h [ inl e ↦ inl e | inr p ↦ to_part p.0 r p.1 p.2 ]

  pub group_told : (s t u x y : ConfigRow → Type 0) → Adds (Lacking w (λ r. r ≡ storage_head_row n g)) s t → Adds (Lacking w HostGroupPart) t u → Adds (Lacking w TargetPart) u x → Adds (Lacking w UnitPart) x y → Adds (Lacking w (IsStorageGroupRow n g)) s y
  group_told s t u x y a b c d =
      lacking_as w InParts (IsStorageGroupRow n g) s y to_group to_parts
      (lacking_both w (λ r. r ≡ storage_head_row n g) (λ r. HostGroupPart r ⊎ (TargetPart r ⊎ UnitPart r)) s t y a
      (lacking_both w HostGroupPart (λ r. TargetPart r ⊎ UnitPart r) t u y b (lacking_both w TargetPart UnitPart u x y c d)))

-- ---- all

-- the rows of the zoning, and of the mapping, that were lent
pub fabric_of : (w : Option ConfigRows) (f : Fabric) (u v : FabricZoning) (s t : ConfigRow → Type 0) → u ≡ v → Adds (Lacking w (IsFabricRow f u)) s t → Adds (Lacking w (IsFabricRow f v)) s t
fabric_of w f u v s t is a = subst (λ (x : FabricZoning). Adds (Lacking w (IsFabricRow f x)) s t) is a

pub host_groups_of : (w : Option ConfigRows) (m n : MappingRows) (s t : ConfigRow → Type 0) → m ≡ n → Adds (Lacking w (IsHostGroupsRow m)) s t → Adds (Lacking w (IsHostGroupsRow n)) s t
host_groups_of w m n s t is a = subst (λ (x : MappingRows). Adds (Lacking w (IsHostGroupsRow x)) s t) is a

pub groups_of : (w : Option ConfigRows) (m n : MappingRows) (s t : ConfigRow → Type 0) → m ≡ n → Adds (Lacking w (IsStorageGroupsRow m)) s t → Adds (Lacking w (IsStorageGroupsRow n)) s t
groups_of w m n s t is a = subst (λ (x : MappingRows). Adds (Lacking w (IsStorageGroupsRow x)) s t) is a

module _ (c : ConfigRows) where
  abbrev InTables : ConfigRow → Type 0
  InTables r = IsFabricRow A c.a r ⊎ (IsFabricRow B c.b r ⊎ (IsHostGroupsRow c.mapping r ⊎ IsStorageGroupsRow c.mapping r))

  -- what a fabric's tables have, stands
  of_fabric : (f : Fabric) (r : ConfigRow) → IsFabricRow f (zoning_at c f) r → Stands c r
  of_fabric f r h = elim h [
    | inl d ↦ elim d [
      | inl a ↦ subst (Stands c) (sym a.3) a.2
      | inr d ↦ elim d [ inl z ↦ subst (Stands c) (sym z.3) z.2 | inr s ↦ subst (Stands c) (sym s.3) s.2 ]
    ]
    | inr h ↦ elim h [
      | inl a ↦ subst (Stands c) (sym a.3) a.2
      | inr s ↦ elim s [ inl e ↦ subst (Stands c) (sym e) refl | inr e ↦ subst (Stands c) (sym e) refl ]
    ]
  ]

  -- what a group's tables have, stands
  of_host_group : (r : ConfigRow) → IsHostGroupsRow c.mapping r → Stands c r
  of_host_group r h = elim h.3 [
    | inl e ↦ subst (Stands c) (sym e) (h.1, h.2, record { tenant = refl })
    | inr p ↦ subst (Stands c) (sym p.2) (h.1, h.2, p.1)
  ]

  of_storage_group : (r : ConfigRow) → IsStorageGroupsRow c.mapping r → Stands c r
  of_storage_group r h = elim h.3 [
    | inl e ↦ subst (Stands c) (sym e) (h.1, h.2, record { tenant = refl; array = refl; exposed = refl })
    | inr p ↦ subst (Stands c) (sym p.2) (h.1, h.2, p.1)
  ]

  stand : (r : ConfigRow) → InTables r → Stands c r
  stand r h = elim h [
    | inl a ↦ of_fabric A r a
    | inr h ↦ elim h [ inl b ↦ of_fabric B r b | inr h ↦ elim h [ inl k ↦ of_host_group r k | inr g ↦ of_storage_group r g ] ]
  ]

  -- and what stands is in the tables
  in_fabric : (f : Fabric) (r : ConfigRow) → IsFabricRow f (zoning_at c f) r → InTables r
  in_fabric A r h = inl h
  in_fabric B r h = inr (inl h)

  item_row : (f : Fabric) (x : ZoningItem) → HasItem (zoning_at c f) x → IsFabricRow f (zoning_at c f) (config.Zoning (record { fabric = f; item = x }))
  item_row f (Alias n m) h = inl (inl (n, m, h, refl))
  item_row f (Zone n m) h = inl (inr (inl (n, m, h, refl)))
  item_row f (Set n z) h = inl (inr (inr (n, z, h, refl)))

  tables : (r : ConfigRow) → Stands c r → InTables r
  tables (config.Setting (ActiveSet f n)) h = in_fabric f (config.Setting (ActiveSet f n)) (inr (inr (inl (ap (λ x. config.Setting (ActiveSet f x)) (sym h)))))
  tables (config.Setting (DefaultZone f p)) h = in_fabric f (config.Setting (DefaultZone f p)) (inr (inr (inr (ap (λ x. config.Setting (DefaultZone f x)) (sym h)))))
  tables (config.Zoning r) h = in_fabric r.fabric (config.Zoning r) (item_row r.fabric r.item h)
  tables (config.Active r) h = in_fabric r.fabric (config.Active r) (inr (inl (r.zone, r.member, h, refl)))
  tables (config.Group (group.Host r)) h = inr (inr (inl (r.name, h.0, h.1, inl (λ i. config.Group (group.Host (record { name = r.name; tenant = sym h.2.tenant i }))))))
  tables (config.Group (group.Storage r)) h =
      inr (inr (inr (r.name, h.0, h.1, inl (λ i. config.Group (group.Storage (record { name = r.name; tenant = sym h.2.tenant i; array = sym h.2.array i; exposed = sym h.2.exposed i }))))))
  tables (config.Part (parts.Host n x)) h = inr (inr (inl (n, h.0, h.1, inr (x, h.2, refl))))
  tables (config.Part (parts.Storage n p)) h = inr (inr (inr (n, h.0, h.1, inr (p, h.2, refl))))

  pub all_told : (w : Option ConfigRows) (s t u x y : ConfigRow → Type 0) → Adds (Lacking w (IsFabricRow A c.a)) s t → Adds (Lacking w (IsFabricRow B c.b)) t u → Adds (Lacking w (IsHostGroupsRow c.mapping)) u x → Adds (Lacking w (IsStorageGroupsRow c.mapping)) x y
      → Adds (Lacking w (Stands c)) s y
  all_told w s t u x y a b k g =
      lacking_as w InTables (Stands c) s y stand tables
      (lacking_both w (IsFabricRow A c.a) (λ r. IsFabricRow B c.b r ⊎ (IsHostGroupsRow c.mapping r ⊎ IsStorageGroupsRow c.mapping r)) s t y a
      (lacking_both w (IsFabricRow B c.b) (λ r. IsHostGroupsRow c.mapping r ⊎ IsStorageGroupsRow c.mapping r) t u y b (lacking_both w (IsHostGroupsRow c.mapping) (IsStorageGroupsRow c.mapping) u x y k g)))
