-- The mapping of a configuration by its rows.
use Rattle.std.proofs.Common.{ℕ, ◌≡◌, ◌≤◌, List, [], ◌∷◌, length, cond, Option, None, Some, is_some, IsSome, Bool, true, refl, sym, ap, ◌∙◌, subst, arith, MatchOption}
use mathlib.Core.Bool.{true≢false}
use Rattle.std.specs.declared.cmp.Ordering.{Ordering}
use Rattle.std.specs.BTreeMap as tree
use Rattle.std.specs.BTreeMap.{BTreeMap}
use Rattle.std.specs.BTreeSet.{BTreeSet}
use Rattle.std.specs.Cmp.{eq_by_cmp_equiv, nat_cmp_total}
use Rattle.std.specs.FinMap as map
use Rattle.std.specs.FinSet as set
use Rattle.std.specs.List.{list_all}
use Rattle.std.specs.Map.{lookup, keys_of}
use Rattle.std.specs.Option.{option_map, option_and_then}
use Rattle.std.specs.Ordering.{nat_cmp, eq_by_cmp}
use Rattle.std.proofs.lemmas.Map.Entries.{length-keys_of}
use Rattle.std.proofs.lemmas.Map.Keys.{IsDistinct-from_sorted}
use Rattle.std.proofs.lemmas.Map.Steps.{length-le_from_keys}
use Rattle.fab_names.specs.Orders.{name_cmp}
use Rattle.fab_names.proofs.OrderLaws.{name_total, name_exact}
use Rattle.fab_reach_base.specs.fab_lemmas.Firsts.{HasAt}
use Rattle.fab_reach_base.specs.fab_lemmas.MapsOfSets.{in_tree, tree_has}
use Rattle.fab_reach_base.proofs.fab_lemmas.SeenMaps.{get_entries}
use Rattle.fab_reach_base.proofs.fab_lemmas.Tests.{both, left, right}
use Rattle.fab_reach_base.specs.fab_mapping_base.Groups.{HostGroupRows, StorageGroupRows}
use Rattle.fab_reach_base.specs.fab_mapping_base.declared.nexus.Nexus.{Nexus}
use Rattle.fab_reach_base.specs.fab_mapping.Mappings.{MappingRows, HasNoClash, IsLeastClash}
use Rattle.fab_reach_base.specs.Records.{ConfigRows}
use Rattle.fab_store_rows.specs.declared.config_row.ConfigRow.{ConfigRow}
use Rattle.fab_store_rows.specs.declared.config_row.StoragePart.TheVariants as part
use Rattle.fab_store_rows.specs.Standing.{IsHostHead, IsStorageHead, HasPart}
use Rattle.fab_store_load.specs.declared.kinds.Head.{Head}
use Rattle.fab_store_load.specs.declared.groups.Parts.{Parts}
use Rattle.fab_reach_base.specs.fab_zoning.Edits.{IsIn, HasItems}
use Rattle.fab_store_load.specs.Rows.{AreRows, IsAt, at, StandsIn}
use Rattle.fab_store_load.specs.Kinds.{Named, host_group_row, storage_group_row, host_row, served_row, target_row, unit_row}
use Rattle.fab_store_load.specs.Assembled.{set_at, map_at, host_group_at, storage_group_at}
use Rattle.fab_store_load.specs.Parts.{HaveParts, are_parts_known}
use Rattle.fab_store_load.specs.Configs.{AreConfigRows, HostGroupsSay, StorageGroupsSay}
use Rattle.fab_reach_base.proofs.fab_lemmas.KeyTests.{key_passes, each_key_passes, any_found}
use Rattle.fab_store_load.proofs.GroupRows.{found_in_set, found_in_map, one_test, one_found, heads_of_groups, heads_alike, made_heads, made_parts, part_of_group, part_has_head, groups_are_made}

-- whether a name has a head
abbrev pub knows : {H : Type 0} → BTreeMap (List ℕ) H → List ℕ → Bool
knows heads n = is_some (tree.get name_cmp heads n)

-- a search is a look-up
searched : {K X : Type 0} (R : K → K → Ordering) (es : List (K × X)) (q : K) → map.find R q es ≡ lookup (eq_by_cmp R q) es
searched R [] q = refl
searched R (e ∷ es) q = ap (cond (eq_by_cmp R q e.0) (Some e.1)) (searched R es q)

-- heads of groups are no more than the groups
module _ {G H : Type 0} (hd : G → H) where
  has_one : (o : Option G) (h : H) → option_map hd o ≡ Some h → IsSome o
  has_one None h is = absurd cc
  has_one (Some g) h is = refl

  pub no_more_heads : (m : map.FinMap name_cmp G) (t : BTreeMap (List ℕ) H) → tree.IsOrdered name_cmp t → ((q : List ℕ) → option_map hd (map.get m q) ≡ tree.get name_cmp t q) → length t.entries ≤ map.len m
  no_more_heads m t sorted alike =
      let bound = length-le_from_keys (eq_by_cmp_equiv name_total) (keys_of t.entries) (map.entries m) (IsDistinct-from_sorted name_cmp (keys_of t.entries) sorted) (λ q there.
      let h = any_found name_total name_exact (λ _. true) t.entries q there in
      subst IsSome (map.get-entries m q ∙ searched name_cmp (map.entries m) q) (has_one (map.get m q) h.0 (alike q ∙ h.1))) in
      let keys = length-keys_of t.entries in
      let size = map.len-entries m in
      omega (arith, bound, keys, size)

-- an item of a set that was found under a name
item_key : {X : Type 0} (P : List ℕ → Type 0) (f : List ℕ → Option (BTreeSet X)) (R : _) (q : List ℕ) (x : X) → in_tree R (f q) x ≡ true → ((s : BTreeSet X) → f q ≡ Some s → P q) → P q
item_key {X} P f R q x is h = by (f q) refl is
  where
    by : (o : Option (BTreeSet X)) → f q ≡ o → in_tree R o x ≡ true → P q
    by None e i = absurd (true≢false (sym i))
    by (Some s) e i = h s e

entry_key : {K X : Type 0} (P : List ℕ → Type 0) (f : List ℕ → Option (BTreeMap K X)) (R : _) (q : List ℕ) (k : K) (x : X) → option_and_then (λ s. tree.get R s k) (f q) ≡ Some x → ((s : BTreeMap K X) → f q ≡ Some s → P q) → P q
entry_key {K} {X} P f R q k x is h = by (f q) refl is
  where
    by : (o : Option (BTreeMap K X)) → f q ≡ o → option_and_then (λ s. tree.get R s k) o ≡ Some x → P q
    by None e i = absurd cc
    by (Some s) e i = h s e

-- ---- host groups
abbrev pub tenant_of : HostGroupRows → List ℕ
tenant_of g = g.tenant

abbrev IsTenant : Named (List ℕ) → HostGroupRows → Type 0
IsTenant e = IsHostHead (record { name = e.0; tenant = e.1 })

abbrev HoldsHost : Named (List ℕ) → HostGroupRows → Type 0
HoldsHost e g = set.contains g.hosts e.1 ≡ true

-- the rows of host groups say their tenants
pub tenants_say : (rows : List ConfigRow) (m : map.FinMap name_cmp HostGroupRows) → HostGroupsSay rows m → AreRows host_group_row rows (StandsIn (λ q. option_map tenant_of (map.get m q)))
tenants_say rows m says = heads_of_groups rows tenant_of (λ q. None) (λ q t. record { tenant = t; hosts = set.empty }) (λ q t. refl) (map.get m) host_group_row IsTenant (λ e g is. is.tenant) (λ e g is. record { tenant = is }) says.heads_are

module _ (rows : List ConfigRow) (tenants : BTreeMap (List ℕ) (List ℕ)) (heads : AreRows host_group_row rows (StandsIn (tree.get name_cmp tenants))) where
  -- the tenants of host groups that have the rows
  pub tenants_alike : (m : map.FinMap name_cmp HostGroupRows) → HostGroupsSay rows m → (q : List ℕ) → option_map tenant_of (map.get m q) ≡ tree.get name_cmp tenants q
  tenants_alike m says = heads_alike rows tenant_of (tree.get name_cmp tenants) (λ q t. record { tenant = t; hosts = set.empty }) (λ q t. refl) (map.get m) host_group_row IsTenant (λ e g is. is.tenant) (λ e g is. record { tenant = is }) says.heads_are heads

  module _ (hosts : BTreeMap (List ℕ) (BTreeSet (List ℕ))) (has_hosts : AreRows host_row rows (IsIn name_cmp name_cmp hosts)) where
    to_host : (e : Named (List ℕ)) (t : List ℕ) → HoldsHost e (host_group_at hosts e.0 t) → IsIn name_cmp name_cmp hosts e
    to_host e t is = sym (found_in_set name_total (tree.get name_cmp hosts e.0) e.1) ∙ is

    from_host : (e : Named (List ℕ)) (t : List ℕ) → IsIn name_cmp name_cmp hosts e → HoldsHost e (host_group_at hosts e.0 t)
    from_host e t is = found_in_set name_total (tree.get name_cmp hosts e.0) e.1 ∙ is

    -- every name that has a host is known, where there are host groups with the rows
    pub hosts_are_known : HasItems name_cmp name_cmp hosts → (m : map.FinMap name_cmp HostGroupRows) → HostGroupsSay rows m → list_all (knows tenants) (tree.keys hosts) ≡ true
    hosts_are_known some m says = each_key_passes name_total name_exact (knows tenants) hosts.entries (λ q s there.
        let x = some q s there in
        part_has_head rows tenant_of (tree.get name_cmp tenants) (host_group_at hosts) (λ p t. refl) host_row (λ (e : Named (List ℕ)). e.0) HoldsHost (IsIn name_cmp name_cmp hosts) (map.get m) says.hosts_are has_hosts (tenants_alike m says) (q, x.0) (ap (λ o. in_tree name_cmp o x.0) there ∙ x.1))

    module _ (made : map.FinMap name_cmp HostGroupRows) (made_is : (q : List ℕ) → map.get made q ≡ option_map (host_group_at hosts q) (tree.get name_cmp tenants q)) where
      pub made_host_groups : list_all (knows tenants) (tree.keys hosts) ≡ true → HostGroupsSay rows made
      made_host_groups known = record {
        heads_are = made_heads rows tenant_of (tree.get name_cmp tenants) (host_group_at hosts) (λ p t. refl) (map.get made) made_is host_group_row IsTenant (λ e g is. is.tenant) (λ e g is. record { tenant = is }) heads;
        hosts_are = made_parts rows tenant_of (tree.get name_cmp tenants) (host_group_at hosts) (λ p t. refl) (map.get made) made_is host_row (λ (e : Named (List ℕ)). e.0) HoldsHost (IsIn name_cmp name_cmp hosts) to_host from_host
            (λ e is. item_key (λ q. knows tenants q ≡ true) (tree.get name_cmp hosts) name_cmp e.0 e.1 is (λ s there. key_passes name_total name_exact (knows tenants) hosts.entries known e.0 s there)) has_hosts;
      }

      pub only_host_groups : (m : map.FinMap name_cmp HostGroupRows) → HostGroupsSay rows m → m ≡ made
      only_host_groups m says = groups_are_made rows tenant_of (tree.get name_cmp tenants) (host_group_at hosts) (λ p t. refl) m made made_is (tenants_alike m says) (λ q g there.
          let same : g.hosts ≡ set_at name_cmp (tree.get name_cmp hosts q) = set.same_set name_total name_exact g.hosts (set_at name_cmp (tree.get name_cmp hosts q)) (λ x.
          let iff = part_of_group rows tenant_of (tree.get name_cmp tenants) (host_group_at hosts) (λ p t. refl) host_row (λ (e : Named (List ℕ)). e.0) HoldsHost (IsIn name_cmp name_cmp hosts) (map.get m) says.hosts_are has_hosts (q, x) g there in
          one_test (set.contains g.hosts x) (tree_has name_cmp name_cmp hosts q x) iff.0 iff.1 ∙ sym (found_in_set name_total (tree.get name_cmp hosts q) x)) in
          λ i. record { tenant = g.tenant; hosts = same i })

-- ---- storage groups
abbrev pub head_of : StorageGroupRows → Head
head_of g = record { tenant = g.tenant; array = g.array; exposed = g.exposed }

abbrev IsHead : Named Head → StorageGroupRows → Type 0
IsHead e = IsStorageHead (record { name = e.0; tenant = e.1.tenant; array = e.1.array; exposed = e.1.exposed })

to_head : (e : Named Head) (g : StorageGroupRows) → IsHead e g → head_of g ≡ e.1
to_head e g is = λ i. record { tenant = is.tenant i; array = is.array i; exposed = is.exposed i }

from_head : (e : Named Head) (g : StorageGroupRows) → head_of g ≡ e.1 → IsHead e g
from_head e g is = record { tenant = ap (λ (h : Head). h.tenant) is; array = ap (λ (h : Head). h.array) is; exposed = ap (λ (h : Head). h.exposed) is }

abbrev Serves : Named (List ℕ) → StorageGroupRows → Type 0
Serves e = HasPart (part.HostGroup e.1)

abbrev Targets : Named ℕ → StorageGroupRows → Type 0
Targets e = HasPart (part.Target e.1)

abbrev MapsUnit : (List ℕ × ℕ) × List ℕ → StorageGroupRows → Type 0
MapsUnit e = HasPart (part.Unit e.0.1 e.1)

-- the rows of storage groups say their heads
pub storage_say : (rows : List ConfigRow) (m : map.FinMap name_cmp StorageGroupRows) → StorageGroupsSay rows m → AreRows storage_group_row rows (StandsIn (λ q. option_map head_of (map.get m q)))
storage_say rows m says = heads_of_groups rows head_of (λ q. None) (λ q h. record { tenant = h.tenant; array = h.array; host_groups = set.empty; targets = set.empty; units = map.empty; exposed = h.exposed }) (λ q h. refl) (map.get m) storage_group_row IsHead to_head from_head says.heads_are

-- two units of one group and number that differ are no storage groups'
pub units_say : (rows : List ConfigRow) (m : map.FinMap name_cmp StorageGroupRows) → StorageGroupsSay rows m → AreRows unit_row rows (StandsIn (λ k. option_and_then (λ (g : StorageGroupRows). map.get g.units k.1) (map.get m k.0)))
units_say rows m says = record {
  sound = λ e there. let w = says.units_are.sound e there in ap (option_and_then (λ (g : StorageGroupRows). map.get g.units e.0.1)) w.1 ∙ w.2;
  complete = λ e is. says.units_are.complete e (by e (map.get m e.0.0) refl is);
}
  where
    by : (e : (List ℕ × ℕ) × List ℕ) (o : Option StorageGroupRows) → map.get m e.0.0 ≡ o → option_and_then (λ (g : StorageGroupRows). map.get g.units e.0.1) o ≡ Some e.1 → HasAt (map.get m) (MapsUnit e) e.0.0
    by e None there is = absurd cc
    by e (Some g) there is = (g, there, is)

module _ (rows : List ConfigRow) (heads : BTreeMap (List ℕ) Head) (heads_are : AreRows storage_group_row rows (StandsIn (tree.get name_cmp heads))) where
  -- the heads of storage groups that have the rows
  pub storage_alike : (m : map.FinMap name_cmp StorageGroupRows) → StorageGroupsSay rows m → (q : List ℕ) → option_map head_of (map.get m q) ≡ tree.get name_cmp heads q
  storage_alike m says = heads_alike rows head_of (tree.get name_cmp heads) (λ q h. record { tenant = h.tenant; array = h.array; host_groups = set.empty; targets = set.empty; units = map.empty; exposed = h.exposed }) (λ q h. refl) (map.get m) storage_group_row IsHead to_head from_head says.heads_are heads_are

  module _ {A : Type 0} (p : Parts A) (have : HaveParts rows p) where
    -- every name that has a part is known, where there are storage groups with the rows
    pub parts_are_known : (m : map.FinMap name_cmp StorageGroupRows) → StorageGroupsSay rows m → are_parts_known p heads ≡ true
    parts_are_known m says =
        let alike = storage_alike m says in
        let served = each_key_passes name_total name_exact (knows heads) p.served.entries (λ q s there.
        let x = have.some_served q s there in
        part_has_head rows head_of (tree.get name_cmp heads) (storage_group_at p) (λ q h. refl) served_row (λ (e : Named (List ℕ)). e.0) Serves (IsIn name_cmp name_cmp p.served) (map.get m) says.served_are have.served_are alike (q, x.0) (ap (λ o. in_tree name_cmp o x.0) there ∙ x.1)) in
        let targets = each_key_passes name_total name_exact (knows heads) p.targets.entries (λ q s there.
        let x = have.some_target q s there in
        part_has_head rows head_of (tree.get name_cmp heads) (storage_group_at p) (λ q h. refl) target_row (λ (e : Named ℕ). e.0) Targets (IsIn name_cmp nat_cmp p.targets) (map.get m) says.targets_are have.targets_are alike (q, x.0) (ap (λ o. in_tree nat_cmp o x.0) there ∙ x.1)) in
        let units = each_key_passes name_total name_exact (knows heads) p.units.entries (λ q s there.
        let x = have.some_unit q s there in
        part_has_head rows head_of (tree.get name_cmp heads) (storage_group_at p) (λ q h. refl) unit_row (λ (e : (List ℕ × ℕ) × List ℕ). e.0.0) MapsUnit (IsAt name_cmp nat_cmp p.units) (map.get m) says.units_are have.units_are alike ((q, x.0), x.1) (ap (option_and_then (λ t. tree.get nat_cmp t x.0)) there ∙ x.2)) in
        both served (both targets units)

    module _ (made : map.FinMap name_cmp StorageGroupRows) (made_is : (q : List ℕ) → map.get made q ≡ option_map (storage_group_at p q) (tree.get name_cmp heads q)) where
      pub made_storage_groups : are_parts_known p heads ≡ true → StorageGroupsSay rows made
      made_storage_groups known =
          let rest = right (list_all (knows heads) (tree.keys p.served)) _ known in record {
            heads_are = made_heads rows head_of (tree.get name_cmp heads) (storage_group_at p) (λ q h. refl) (map.get made) made_is storage_group_row IsHead to_head from_head heads_are;
            served_are = made_parts rows head_of (tree.get name_cmp heads) (storage_group_at p) (λ q h. refl) (map.get made) made_is served_row (λ (e : Named (List ℕ)). e.0) Serves (IsIn name_cmp name_cmp p.served)
                (λ e h is. sym (found_in_set name_total (tree.get name_cmp p.served e.0) e.1) ∙ is) (λ e h is. found_in_set name_total (tree.get name_cmp p.served e.0) e.1 ∙ is)
                (λ e is. item_key (λ q. knows heads q ≡ true) (tree.get name_cmp p.served) name_cmp e.0 e.1 is (λ s there. key_passes name_total name_exact (knows heads) p.served.entries (left (list_all (knows heads) (tree.keys p.served)) _ known) e.0 s there)) have.served_are;
            targets_are = made_parts rows head_of (tree.get name_cmp heads) (storage_group_at p) (λ q h. refl) (map.get made) made_is target_row (λ (e : Named ℕ). e.0) Targets (IsIn name_cmp nat_cmp p.targets)
                (λ e h is. sym (found_in_set nat_cmp_total (tree.get name_cmp p.targets e.0) e.1) ∙ is) (λ e h is. found_in_set nat_cmp_total (tree.get name_cmp p.targets e.0) e.1 ∙ is)
                (λ e is. item_key (λ q. knows heads q ≡ true) (tree.get name_cmp p.targets) nat_cmp e.0 e.1 is (λ s there. key_passes name_total name_exact (knows heads) p.targets.entries (left (list_all (knows heads) (tree.keys p.targets)) _ rest) e.0 s there)) have.targets_are;
            units_are = made_parts rows head_of (tree.get name_cmp heads) (storage_group_at p) (λ q h. refl) (map.get made) made_is unit_row (λ (e : (List ℕ × ℕ) × List ℕ). e.0.0) MapsUnit (IsAt name_cmp nat_cmp p.units)
                (λ e h is. sym (found_in_map nat_cmp_total (tree.get name_cmp p.units e.0.0) e.0.1) ∙ is) (λ e h is. found_in_map nat_cmp_total (tree.get name_cmp p.units e.0.0) e.0.1 ∙ is)
                (λ e is. entry_key (λ q. knows heads q ≡ true) (tree.get name_cmp p.units) nat_cmp e.0.0 e.0.1 e.1 is (λ s there. key_passes name_total name_exact (knows heads) p.units.entries (right (list_all (knows heads) (tree.keys p.targets)) _ rest) e.0.0 s there)) have.units_are;
          }

      pub only_storage_groups : (m : map.FinMap name_cmp StorageGroupRows) → StorageGroupsSay rows m → m ≡ made
      only_storage_groups m says = groups_are_made rows head_of (tree.get name_cmp heads) (storage_group_at p) (λ q h. refl) m made made_is (storage_alike m says) (λ q g there.
          let served : g.host_groups ≡ set_at name_cmp (tree.get name_cmp p.served q) = set.same_set name_total name_exact g.host_groups (set_at name_cmp (tree.get name_cmp p.served q)) (λ x.
          let iff = part_of_group rows head_of (tree.get name_cmp heads) (storage_group_at p) (λ q h. refl) served_row (λ (e : Named (List ℕ)). e.0) Serves (IsIn name_cmp name_cmp p.served) (map.get m) says.served_are have.served_are (q, x) g there in
          one_test (set.contains g.host_groups x) (tree_has name_cmp name_cmp p.served q x) iff.0 iff.1 ∙ sym (found_in_set name_total (tree.get name_cmp p.served q) x)) in
          let targets : g.targets ≡ set_at nat_cmp (tree.get name_cmp p.targets q) = set.same_set nat_cmp_total set.nat_cmp-IsAntisymmetric g.targets (set_at nat_cmp (tree.get name_cmp p.targets q)) (λ x.
          let iff = part_of_group rows head_of (tree.get name_cmp heads) (storage_group_at p) (λ q h. refl) target_row (λ (e : Named ℕ). e.0) Targets (IsIn name_cmp nat_cmp p.targets) (map.get m) says.targets_are have.targets_are (q, x) g there in
          one_test (set.contains g.targets x) (tree_has name_cmp nat_cmp p.targets q x) iff.0 iff.1 ∙ sym (found_in_set nat_cmp_total (tree.get name_cmp p.targets q) x)) in
          let units : g.units ≡ map_at nat_cmp (tree.get name_cmp p.units q) = map.same_map nat_cmp_total map.nat_cmp-IsAntisymmetric g.units (map_at nat_cmp (tree.get name_cmp p.units q)) (λ u.
          let iff = λ (v : List ℕ). part_of_group rows head_of (tree.get name_cmp heads) (storage_group_at p) (λ q h. refl) unit_row (λ (e : (List ℕ × ℕ) × List ℕ). e.0.0) MapsUnit (IsAt name_cmp nat_cmp p.units) (map.get m) says.units_are have.units_are ((q, u), v) g there in
          one_found (map.get g.units u) (at name_cmp nat_cmp p.units (q, u)) (λ v. (iff v).0) (λ v. (iff v).1) ∙ sym (found_in_map nat_cmp_total (tree.get name_cmp p.units q) u)) in
          λ i. record { tenant = g.tenant; array = g.array; host_groups = served i; targets = targets i; units = units i; exposed = g.exposed })

-- ---- a configuration's mapping says its rows
module _ (rows : List ConfigRow) (c : ConfigRows) (all : AreConfigRows rows c) where
  pub host_groups_say : HostGroupsSay rows c.mapping.host_groups
  host_groups_say = record {
    heads_are = record { sound = λ e. (all (host_group_row e)).0; complete = λ e. (all (host_group_row e)).1 };
    hosts_are = record { sound = λ e. (all (host_row e)).0; complete = λ e. (all (host_row e)).1 };
  }

  pub storage_groups_say : StorageGroupsSay rows c.mapping.groups
  storage_groups_say = record {
    heads_are = record { sound = λ e. (all (storage_group_row e)).0; complete = λ e. (all (storage_group_row e)).1 };
    served_are = record { sound = λ e. (all (served_row e)).0; complete = λ e. (all (served_row e)).1 };
    targets_are = record { sound = λ e. (all (target_row e)).0; complete = λ e. (all (target_row e)).1 };
    units_are = record { sound = λ e. (all (unit_row e)).0; complete = λ e. (all (unit_row e)).1 };
  }

-- the look-ups in the tree of groups that were made are those in its finite map
pub made_seen : {G H : Type 0} (groups : BTreeMap (List ℕ) G) (first : List ℕ → H → G) (heads : List ℕ → Option H) → ((q : List ℕ) → tree.get name_cmp groups q ≡ option_map (first q) (heads q)) → (q : List ℕ) → map.get {R = name_cmp} (map.from_entries groups.entries) q ≡ option_map (first q) (heads q)
made_seen groups first heads is q = get_entries name_total groups.entries q ∙ is q

-- what is said where groups were found, or none
pub found_groups : {T : Type 0} (P : T → Type 0) (N : Type 0) (o : Option T) (t : T) → o ≡ Some t → MatchOption o N P → P t
found_groups P N o t is h = subst (λ x. MatchOption x N P) is h

pub no_groups : {T : Type 0} (P : T → Type 0) (N : Type 0) (o : Option T) → o ≡ None → MatchOption o N P → N
no_groups P N o is h = subst (λ x. MatchOption x N P) is h

-- all host groups with the rows are those that were made; none have them; the same of storage groups
abbrev pub OnlyHostGroups : List ConfigRow → BTreeMap (List ℕ) HostGroupRows → Type 0
OnlyHostGroups rows t = (m : map.FinMap name_cmp HostGroupRows) → HostGroupsSay rows m → m ≡ map.from_entries t.entries

abbrev pub NoHostGroups : List ConfigRow → Type 0
NoHostGroups rows = (m : map.FinMap name_cmp HostGroupRows) → ¬ HostGroupsSay rows m

abbrev pub OnlyGroups : List ConfigRow → BTreeMap (List ℕ) StorageGroupRows → Type 0
OnlyGroups rows t = (m : map.FinMap name_cmp StorageGroupRows) → StorageGroupsSay rows m → m ≡ map.from_entries t.entries

abbrev pub NoGroups : List ConfigRow → Type 0
NoGroups rows = (m : map.FinMap name_cmp StorageGroupRows) → ¬ StorageGroupsSay rows m

-- the mapping of a configuration with the rows is the one that was made
pub one_mapping : (rows : List ConfigRow) (c : ConfigRows) → AreConfigRows rows c → (host_groups : BTreeMap (List ℕ) HostGroupRows) (groups : BTreeMap (List ℕ) StorageGroupRows) → OnlyHostGroups rows host_groups → OnlyGroups rows groups
    → c.mapping ≡ record { host_groups = map.from_entries host_groups.entries; groups = map.from_entries groups.entries }
one_mapping rows c all host_groups groups only_hosts only =
    let a = only_hosts c.mapping.host_groups (host_groups_say rows c all) in
    let b = only c.mapping.groups (storage_groups_say rows c all) in
    λ i. record { host_groups = a i; groups = b i }

-- a clash that was found stands
pub clash_stands : (m : MappingRows) (o : Option Nexus) (n : Nexus) → o ≡ Some n → MatchOption o (HasNoClash m) (IsLeastClash m) → ¬ HasNoClash m
clash_stands m o n is h none = let least = subst (λ x. MatchOption x (HasNoClash m) (IsLeastClash m)) is h in none n least.0
