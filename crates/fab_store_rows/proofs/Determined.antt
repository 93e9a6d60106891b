-- Rows tell what they are the rows of.
use Rattle.std.proofs.Common.{◌≡◌, ℕ, List, Option, None, Some, Bool, true, false, refl, sym, ap, ◌∙◌, subst}
use mathlib.Core.Bool.{true≢false}
use Rattle.std.specs.declared.cmp.Ordering.{Ordering}
use Rattle.std.specs.Cmp.{IsTotalOrder, nat_cmp_total}
use Rattle.std.specs.FinMap as map
use Rattle.std.specs.FinSet as set
use Rattle.std.specs.Option.{option_map, option_and_then, is_some}
use Rattle.std.specs.List.Sorted.{IsStrictlySortedBy}
use Rattle.std.proofs.lemmas.Map.Made.{is_member-Decides}
use Rattle.fab_reach_base.specs.fab_names.declared.fabric.Fabric.{Fabric}
use Rattle.fab_reach_base.specs.fab_names.declared.fabric.Fabric.TheVariants.{A, B}
use Rattle.fab_reach_base.proofs.fab_names.OrderLaws.{name_total, name_exact, member_total, member_exact}
use Rattle.fab_reach_base.specs.fab_inventory.declared.port.Known.{Known}
use Rattle.fab_reach_base.specs.fab_inventory.declared.holder.Holder.{Holder}
use Rattle.fab_reach_base.specs.fab_inventory.declared.holder.Volume.{Volume}
use Rattle.fab_reach_base.specs.fab_inventory.Inventories.{InventoryRows}
use Rattle.fab_reach_base.specs.fab_lemmas.MapsOfSets.{has, in_set}
use Rattle.fab_reach_base.specs.fab_lemmas.Lists.{IsListOf}
use Rattle.fab_reach_base.proofs.fab_lemmas.SeenSets.{tie_decides}
use Rattle.fab_reach_base.specs.fab_zoning.Zonings.{NamedSets, permits, flag_of, flag_of-permits}
use Rattle.fab_reach_base.proofs.fab_zoning_rows.RowSets.{row_total as active_total, row_exact as active_exact}
use Rattle.fab_reach_base.proofs.fab_lemmas.Sizes.{some_member}
use Rattle.fab_reach_base.specs.fab_mapping_base.Groups.{HostGroupRows, StorageGroupRows}
use Rattle.fab_reach_base.specs.Records.{ConfigRows, zoning_at}
use Rattle.fab_reach_base.specs.Soundness.{HasSoundZonings}
use Rattle.fab_reach_base.proofs.SameLists.{same_sorted}
use Rattle.fab_store_rows.specs.declared.config_row.SettingRow.TheVariants.{ActiveSet, DefaultZone}
use Rattle.fab_store_rows.specs.declared.config_row.ZoningItem.TheVariants.{Alias, Zone, Set}
use Rattle.fab_store_rows.specs.declared.config_row.GroupRow.TheVariants as group
use Rattle.fab_store_rows.specs.declared.config_row.StoragePart.TheVariants as part
use Rattle.fab_store_rows.specs.declared.config_row.PartRow.TheVariants as parts
use Rattle.fab_store_rows.specs.declared.config_row.ConfigRow.{ConfigRow}
use Rattle.fab_store_rows.specs.declared.config_row.ConfigRow.TheVariants as config
use Rattle.fab_store_rows.specs.declared.inventory_row.InventoryRow.TheVariants as inventory
use Rattle.fab_store_rows.specs.declared.inventory_row.PortEntry.{PortEntry}
use Rattle.fab_store_rows.specs.RowOrder.{row_order}
use Rattle.fab_store_rows.specs.Standing.{entry_of, address_at}
use Rattle.fab_store_rows.specs.Telling.{HaveSameRows, KnowSameRows}
use Rattle.fab_store_rows.specs.Tidy.{HasNoEmpty, HasNoEmptySet, IsTidy}
use Rattle.fab_store_rows.specs.OrderOfRows.{row_total, row_exact, same_order}
use Rattle.fab_reach_base.proofs.Same.{same_some}

-- ---- tests and answers that are one

same_bool : (a b : Bool) → (a ≡ true → b ≡ true) → (b ≡ true → a ≡ true) → a ≡ b
same_bool true b to from = sym (to refl)
same_bool false true to from = from refl
same_bool false false to from = refl

pub same_option : {X : Type 0} (a b : Option X) → ((x : X) → a ≡ Some x → b ≡ Some x) → ((x : X) → b ≡ Some x → a ≡ Some x) → a ≡ b
same_option None None to from = refl
same_option None (Some y) to from = from y refl
same_option (Some x) b to from = sym (to x refl)

some_is : {X : Type 0} (o : Option X) (x : X) → o ≡ Some x → is_some o ≡ true
some_is o x e = ap is_some e

turned : (c d : ConfigRows) → HaveSameRows c d → HaveSameRows d c
turned c d same r = ((same r).1, (same r).0)

-- ---- sets under names

module _ {K : Type 0} {R : K → K → Ordering} (o : IsTotalOrder R) (exact : set.IsAntisymmetric R) where
  one_of : (m : NamedSets R) (n : List ℕ) → map.contains_key m n ≡ true → HasNoEmpty m → (k : K) × (has m n k ≡ true)
  one_of m n there some = by (map.get m n) refl there
    where
      by : (a : Option (set.FinSet R)) → map.get m n ≡ a → is_some a ≡ true → (k : K) × (has m n k ≡ true)
      by None is h = absurd (true≢false (sym h))
      by (Some s) is h = let w = some_member o exact s (some n s is) in (w.0, ap (λ (a : Option (set.FinSet R)). in_set a w.0) is ∙ w.1)

  -- no set is empty, so those with the same items are one
  same_sets : (m n : NamedSets R) → HasNoEmpty m → HasNoEmpty n → ((q : List ℕ) (x : K) → has m q x ≡ has n q x) → m ≡ n
  same_sets m n some_m some_n alike = map.same_map name_total name_exact m n (λ q. by q (map.get m q) (map.get n q) refl refl)
    where
      by : (q : List ℕ) (a b : Option (set.FinSet R)) → map.get m q ≡ a → map.get n q ≡ b → a ≡ b
      by q None None e f = refl
      by q (Some s) None e f = let x = one_of m q (some_is (map.get m q) s e) some_m in absurd (true≢false (sym x.1 ∙ alike q x.0 ∙ ap (λ a. in_set a x.0) f))
      by q None (Some t) e f = let x = one_of n q (some_is (map.get n q) t f) some_n in absurd (true≢false (sym x.1 ∙ sym (alike q x.0) ∙ ap (λ a. in_set a x.0) e))
      by q (Some s) (Some t) e f = ap Some (set.same_set o exact s t (λ x. ap (λ a. in_set a x) (sym e) ∙ alike q x ∙ ap (λ a. in_set a x) f))

-- ---- a fabric

module _ (c d : ConfigRows) (same : HaveSameRows c d) where
  same_zoning : (f : Fabric) → (zoning_at c f).fabric ≡ f → (zoning_at d f).fabric ≡ f → HasNoEmptySet (zoning_at c f) → HasNoEmptySet (zoning_at d f) → zoning_at c f ≡ zoning_at d f
  same_zoning f own_c own_d sound_c sound_d = λ i. record {
    fabric = (own_c ∙ sym own_d) i;
    aliases = aliases i;
    zones = zones i;
    sets = sets i;
    active = sym ((same (config.Setting (ActiveSet f (zoning_at c f).active))).0 refl) i;
    rows = rows i;
    flag = flag i;
  }
    where
      aliases : (zoning_at c f).aliases ≡ (zoning_at d f).aliases
      aliases = same_sets member_total member_exact _ _ sound_c.aliases sound_d.aliases
          (λ n m. let row = config.Zoning (record { fabric = f; item = Alias n m }) in same_bool _ _ (same row).0 (same row).1)

      zones : (zoning_at c f).zones ≡ (zoning_at d f).zones
      zones = same_sets member_total member_exact _ _ sound_c.zones sound_d.zones
          (λ n m. let row = config.Zoning (record { fabric = f; item = Zone n m }) in same_bool _ _ (same row).0 (same row).1)

      sets : (zoning_at c f).sets ≡ (zoning_at d f).sets
      sets = same_sets name_total name_exact _ _ sound_c.sets sound_d.sets
          (λ n z. let row = config.Zoning (record { fabric = f; item = Set n z }) in same_bool _ _ (same row).0 (same row).1)

      rows : (zoning_at c f).rows ≡ (zoning_at d f).rows
      rows = set.same_set active_total active_exact _ _ (λ r.
          let row = config.Active (record { fabric = f; zone = r.0; member = r.1 }) in same_bool (set.contains (zoning_at c f).rows r) (set.contains (zoning_at d f).rows r) (same row).0 (same row).1)

      flag : (zoning_at c f).flag ≡ (zoning_at d f).flag
      flag =
          let p : permits (zoning_at d f).flag ≡ permits (zoning_at c f).flag = (same (config.Setting (DefaultZone f (permits (zoning_at c f).flag)))).0 refl in
          sym (flag_of-permits (zoning_at c f).flag) ∙ ap flag_of (sym p) ∙ flag_of-permits (zoning_at d f).flag

  -- ---- groups

  host_group_there : (n : List ℕ) (g : HostGroupRows) → map.get c.mapping.host_groups n ≡ Some g → map.get d.mapping.host_groups n ≡ Some g
  host_group_there n g at =
      let w = (same (config.Group (group.Host (record { name = n; tenant = g.tenant })))).0 (g, at, record { tenant = refl }) in
      let hosts : w.0.hosts ≡ g.hosts = set.same_set name_total name_exact w.0.hosts g.hosts (λ h.
      same_bool (set.contains w.0.hosts h) (set.contains g.hosts h)
      (λ k. let v = (same (config.Part (parts.Host n h))).1 (w.0, w.1, k) in subst (λ (x : HostGroupRows). set.contains x.hosts h ≡ true) (same_some v.1 at) v.2)
      (λ k. let v = (same (config.Part (parts.Host n h))).0 (g, at, k) in subst (λ (x : HostGroupRows). set.contains x.hosts h ≡ true) (same_some v.1 w.1) v.2)) in
      w.1 ∙ (λ i. Some (record { tenant = w.2.tenant i; hosts = hosts i }))

  group_there : (n : List ℕ) (g : StorageGroupRows) → map.get c.mapping.groups n ≡ Some g → map.get d.mapping.groups n ≡ Some g
  group_there n g at =
      let w = (same (config.Group (group.Storage (record { name = n; tenant = g.tenant; array = g.array; exposed = g.exposed })))).0 (g, at, record { tenant = refl; array = refl; exposed = refl }) in
      let host_groups : w.0.host_groups ≡ g.host_groups = set.same_set name_total name_exact w.0.host_groups g.host_groups (λ h.
      same_bool (set.contains w.0.host_groups h) (set.contains g.host_groups h)
      (λ k. let v = (same (config.Part (parts.Storage n (part.HostGroup h)))).1 (w.0, w.1, k) in subst (λ (x : StorageGroupRows). set.contains x.host_groups h ≡ true) (same_some v.1 at) v.2)
      (λ k. let v = (same (config.Part (parts.Storage n (part.HostGroup h)))).0 (g, at, k) in subst (λ (x : StorageGroupRows). set.contains x.host_groups h ≡ true) (same_some v.1 w.1) v.2)) in
      let targets : w.0.targets ≡ g.targets = set.same_set nat_cmp_total set.nat_cmp-IsAntisymmetric w.0.targets g.targets (λ q.
      same_bool (set.contains w.0.targets q) (set.contains g.targets q)
      (λ k. let v = (same (config.Part (parts.Storage n (part.Target q)))).1 (w.0, w.1, k) in subst (λ (x : StorageGroupRows). set.contains x.targets q ≡ true) (same_some v.1 at) v.2)
      (λ k. let v = (same (config.Part (parts.Storage n (part.Target q)))).0 (g, at, k) in subst (λ (x : StorageGroupRows). set.contains x.targets q ≡ true) (same_some v.1 w.1) v.2)) in
      let units : w.0.units ≡ g.units = map.same_map nat_cmp_total set.nat_cmp-IsAntisymmetric w.0.units g.units (λ u.
      same_option (map.get w.0.units u) (map.get g.units u)
      (λ x k. let v = (same (config.Part (parts.Storage n (part.Unit u x)))).1 (w.0, w.1, k) in subst (λ (y : StorageGroupRows). map.get y.units u ≡ Some x) (same_some v.1 at) v.2)
      (λ x k. let v = (same (config.Part (parts.Storage n (part.Unit u x)))).0 (g, at, k) in subst (λ (y : StorageGroupRows). map.get y.units u ≡ Some x) (same_some v.1 w.1) v.2)) in
      w.1 ∙ (λ i. Some (record { tenant = w.2.tenant i; array = w.2.array i; host_groups = host_groups i; targets = targets i; units = units i; exposed = w.2.exposed i }))

pub one_tidy : (c d : ConfigRows) → IsTidy c → IsTidy d → HaveSameRows c d → c ≡ d
one_tidy c d sound_c sound_d same =
    let a = same_zoning c d same A (sound_c.fabrics A) (sound_d.fabrics A) (sound_c.no_empty A) (sound_d.no_empty A) in
    let b = same_zoning c d same B (sound_c.fabrics B) (sound_d.fabrics B) (sound_c.no_empty B) (sound_d.no_empty B) in
    let host_groups = map.same_map name_total name_exact c.mapping.host_groups d.mapping.host_groups (λ n. same_option _ _ (host_group_there c d same n) (host_group_there d c (turned c d same) n)) in
    let groups = map.same_map name_total name_exact c.mapping.groups d.mapping.groups (λ n. same_option _ _ (group_there c d same n) (group_there d c (turned c d same) n)) in
    λ i. record { a = a i; b = b i; mapping = record { host_groups = host_groups i; groups = groups i } }

-- a configuration with sound zonings is tidy
pub tidy_of : (c : ConfigRows) → HasSoundZonings c → IsTidy c
tidy_of c s = record {
  fabrics = s.fabrics;
  no_empty = λ f. let d = (s.sound f).definitions in record { aliases = λ n t at. (d.listed_aliases n t at).0; zones = λ n t at. (d.listed_zones n t at).0; sets = λ n t at. (d.listed_sets n t at).0 };
}

pub one_config : (c d : ConfigRows) → HasSoundZonings c → HasSoundZonings d → HaveSameRows c d → c ≡ d
one_config c d sound_c sound_d same = one_tidy c d (tidy_of c sound_c) (tidy_of d sound_d) same

-- ---- inventories

-- what is known of a port, by its entry and its address
known_by : (q : ℕ) (j k : Known) → entry_of q j ≡ entry_of q k → j.address ≡ k.address → j ≡ k
known_by q j k entry address = λ i. record {
  node = ap (λ (x : PortEntry). x.node) entry i;
  at = ap (λ (x : PortEntry). x.at) entry i;
  address = address i;
  holder = ap (λ (x : PortEntry). x.holder) entry i;
}

module _ (v w : InventoryRows) (same : KnowSameRows v w) where
  port_there : (q : ℕ) (k : Known) → map.get v.ports q ≡ Some k → map.get w.ports q ≡ Some k
  port_there q k at = by (map.get w.ports q) refl ((same (inventory.Entry (entry_of q k)) tt).0 (ap (option_map (entry_of q)) at))
    where
      in_v : address_at v.ports q ≡ k.address
      in_v = ap (option_and_then (λ (x : Known). x.address)) at

      by : (o : Option Known) → map.get w.ports q ≡ o → option_map (entry_of q) o ≡ Some (entry_of q k) → map.get w.ports q ≡ Some k
      by None is e = absurd cc
      by (Some j) is e =
          let in_w : address_at w.ports q ≡ j.address = ap (option_and_then (λ (x : Known). x.address)) is in
          let address = same_option j.address k.address
          (λ a has. sym in_v ∙ (same (inventory.Address (record { port = q; address = a })) tt).1 (in_w ∙ has))
          (λ a has. sym in_w ∙ (same (inventory.Address (record { port = q; address = a })) tt).0 (in_v ∙ has)) in
          is ∙ ap Some (known_by q j k (sym (same_some e refl)) address)

  holder_there : (n : List ℕ) (h : Holder) → map.get v.holders n ≡ Some h → map.get w.holders n ≡ Some h
  holder_there n h at = (same (inventory.Holder (record { name = n; kind = h.kind; tenant = h.tenant })) tt).0 at

  volume_there : (n : List ℕ) (x : Volume) → map.get v.volumes n ≡ Some x → map.get w.volumes n ≡ Some x
  volume_there n x at = (same (inventory.Volume (record { name = n; array = x.array; tenant = x.tenant; bytes = x.bytes })) tt).0 at

pub one_inventory : (v w : InventoryRows) → KnowSameRows v w → v ≡ w
one_inventory v w same =
    let back : KnowSameRows w v = λ r of_table. ((same r of_table).1, (same r of_table).0) in
    let ports = map.same_map nat_cmp_total set.nat_cmp-IsAntisymmetric v.ports w.ports (λ q. same_option _ _ (port_there v w same q) (port_there w v back q)) in
    let holders = map.same_map name_total name_exact v.holders w.holders (λ n. same_option _ _ (holder_there v w same n) (holder_there w v back n)) in
    let volumes = map.same_map name_total name_exact v.volumes w.volumes (λ n. same_option _ _ (volume_there v w same n) (volume_there w v back n)) in
    λ i. record { ports = ports i; holders = holders i; volumes = volumes i }

-- ---- lists

-- two lists of all with a property are one
pub one_list : (P : ConfigRow → Type 0) (xs ys : List ConfigRow) → IsListOf row_order P xs → IsListOf row_order P ys → xs ≡ ys
one_list P xs ys l m = same_sorted row_total row_exact xs ys
    (subst (λ (O : ConfigRow → ConfigRow → Ordering). IsStrictlySortedBy O xs) (sym same_order) l.sorted)
    (subst (λ (O : ConfigRow → ConfigRow → Ordering). IsStrictlySortedBy O ys) (sym same_order) m.sorted)
    (λ k h. (is_member-Decides (tie_decides row_total row_exact) ys k).1 (m.complete k (l.sound k ((is_member-Decides (tie_decides row_total row_exact) xs k).0 h))))
    (λ k h. (is_member-Decides (tie_decides row_total row_exact) xs k).1 (l.complete k (m.sound k ((is_member-Decides (tie_decides row_total row_exact) ys k).0 h))))
