-- One storage group of a mapping becomes another.
use Rattle.std.proofs.Common.{ℕ, ◌≡◌, ◌≤◌, List, Option, None, Some, is_some, Result, Ok, Err, OnOk, OnErr, IfErr, cond, true, refl, sym, ap, ◌∙◌, subst}
use Rattle.std.specs.Option.{option_map, option_and_then}
use Rattle.std.specs.BTreeMap as tree
use Rattle.std.specs.BTreeMap.{BTreeMap, is_at, UpdatesBy}
use Rattle.std.specs.FinMap as map
use Rattle.std.specs.Map.{set_value}
use Rattle.std.proofs.lemmas.Map.Steps.{set_value_same}
use Rattle.fab_mapping_base.specs.fab_names.Orders.{name_cmp}
use Rattle.fab_mapping_base.proofs.fab_names.OrderLaws.{name_total, name_exact}
use Rattle.fab_mapping_base.proofs.fab_lemmas.SeenMaps.{get_entries, seen_insert, seen_remove}
use Rattle.fab_mapping_base.specs.fab_inventory.declared.port.Known.{Known}
use Rattle.fab_mapping_base.specs.fab_inventory.declared.port.Port.{Port}
use Rattle.fab_mapping_base.specs.fab_inventory.Ports.{KnownPorts, port_at, port_of}
use Rattle.fab_mapping_base.specs.fab_inventory.Holders.{holder_in}
use Rattle.fab_mapping_base.specs.fab_inventory.Inventories.{InventoryRows}
use Rattle.fab_mapping_base.specs.declared.fault.MappingFault.{MappingFault}
use Rattle.fab_mapping_base.specs.declared.fault.MappingFault.TheVariants.{UnitTaken, Limit, Memory}
use Rattle.fab_mapping_base.specs.declared.fault.MappingLimit.TheVariants.{Parts}
use Rattle.fab_mapping_base.specs.Groups.{HostGroupRows, StorageGroupRows, AddHostsLimit, AddTargetLimit, MapRefusal}
use Rattle.fab_mapping.specs.Mappings.{MappingRows, ChangesGroup, AddHostsFails, AddTargetFails, MapFails, IsPortOf, IsVolumeOn}

-- the code's maps, as contracts see them
abbrev pub seen : BTreeMap (List ℕ) HostGroupRows → BTreeMap (List ℕ) StorageGroupRows → MappingRows
seen host_groups groups = record { host_groups = map.from_entries host_groups.entries; groups = map.from_entries groups.entries }

-- what the code finds, contracts see
pub group_seen : (m : BTreeMap (List ℕ) StorageGroupRows) (v : MappingRows) (k : List ℕ) (o : Option StorageGroupRows) → map.from_entries m.entries ≡ v.groups → tree.get name_cmp m k ≡ o → map.get v.groups k ≡ o
group_seen m v k o view at = ap (λ x. map.get x k) (sym view) ∙ get_entries name_total m.entries k ∙ at

-- the same for host groups
pub hosts_seen : (m : BTreeMap (List ℕ) HostGroupRows) (v : MappingRows) (k : List ℕ) (o : Option HostGroupRows) → map.from_entries m.entries ≡ v.host_groups → tree.get name_cmp m k ≡ o → map.get v.host_groups k ≡ o
hosts_seen m v k o view at = ap (λ x. map.get x k) (sym view) ∙ get_entries name_total m.entries k ∙ at

-- the group that is written back
pub changed : (hosts : BTreeMap (List ℕ) HostGroupRows) (m n : BTreeMap (List ℕ) StorageGroupRows) (k : List ℕ) (g w : StorageGroupRows) (change : StorageGroupRows → StorageGroupRows) (v : MappingRows) → seen hosts m ≡ v
    → tree.get name_cmp m k ≡ Some g → w ≡ change g → ((q : List ℕ) → tree.get name_cmp n q ≡ cond (is_at (name_cmp k) q) (Some w) (tree.get name_cmp m q)) → ChangesGroup k change v (seen hosts n)
changed hosts m n k g w change v view at is updates = subst (λ (old : MappingRows). ChangesGroup k change old (seen hosts n)) view (record {
  group = g;
  there = get_entries name_total m.entries k ∙ at;
  after = λ i. record {
    host_groups = map.from_entries hosts.entries;
    groups = (seen_insert name_total name_exact m n k w updates ∙ ap (map.insert (map.from_entries m.entries) k) is) i;
  };
})

-- a group that is written back as it was
pub kept : (hosts : BTreeMap (List ℕ) HostGroupRows) (m n : BTreeMap (List ℕ) StorageGroupRows) (k : List ℕ) (g w : StorageGroupRows) (v : MappingRows) → seen hosts m ≡ v → tree.get name_cmp m k ≡ Some g → w ≡ g
    → n.entries ≡ set_value (is_at (name_cmp k)) m.entries w → seen hosts n ≡ v
kept hosts m n k g w v view at is entries =
    (λ i. record { host_groups = map.from_entries hosts.entries; groups = map.from_entries ((entries ∙ set_value_same (is_at (name_cmp k)) m.entries w (at ∙ ap Some (sym is))) i) }) ∙ view

-- a host group that is taken out
pub hosts_dropped : (hosts new : BTreeMap (List ℕ) HostGroupRows) (groups : BTreeMap (List ℕ) StorageGroupRows) (k : List ℕ) (v : MappingRows) → seen hosts groups ≡ v
    → UpdatesBy name_cmp (name_cmp k) hosts new None → seen new groups ≡ record v { host_groups = map.remove v.host_groups k }
hosts_dropped hosts new groups k v view updates =
    (λ i. record { host_groups = seen_remove name_total name_exact hosts new k updates.0 i; groups = map.from_entries groups.entries }) ∙ ap (λ (x : MappingRows). record x { host_groups = map.remove x.host_groups k }) view

-- a storage group that is taken out
pub group_dropped : (hosts : BTreeMap (List ℕ) HostGroupRows) (groups new : BTreeMap (List ℕ) StorageGroupRows) (k : List ℕ) (v : MappingRows) → seen hosts groups ≡ v
    → UpdatesBy name_cmp (name_cmp k) groups new None → seen hosts new ≡ record v { groups = map.remove v.groups k }
group_dropped hosts groups new k v view updates =
    (λ i. record { host_groups = map.from_entries hosts.entries; groups = seen_remove name_total name_exact groups new k updates.0 i }) ∙ ap (λ (x : MappingRows). record x { groups = map.remove x.groups k }) view

-- ---- what a call on the group answers, the call on the mapping answers
pub on_ok : {X E : Type 0} {P Q : Type 0} (r : Result X E) → OnOk r P → (P → Q) → OnOk r Q
on_ok (Ok x) h f = f h
on_ok (Err e) h f = tt

-- what three clauses of an `Ok` say, or four
pub on_three : {X E : Type 0} {P Q S R : Type 0} (r : Result X E) → OnOk r P → OnOk r Q → OnOk r S → (P → Q → S → R) → OnOk r R
on_three (Ok x) p q s f = f p q s
on_three (Err e) p q s f = tt

pub on_four : {X E : Type 0} {P Q S T R : Type 0} (r : Result X E) → OnOk r P → OnOk r Q → OnOk r S → OnOk r T → (P → Q → S → T → R) → OnOk r R
on_four (Ok x) p q s t f = f p q s t
on_four (Err e) p q s t f = tt

-- what an `Err` says
pub on_err : {X E : Type 0} {P Q : Type 0} (r : Result X E) → OnErr r P → (P → Q) → OnErr r Q
on_err (Ok x) h f = tt
on_err (Err e) h f = f h

-- what the fault says
pub if_err : {X E : Type 0} {P Q : E → Type 0} (r : Result X E) → IfErr r P → ((e : E) → P e → Q e) → IfErr r Q
if_err (Ok x) h f = tt
if_err (Err e) h f = f e h

-- what holds whatever is answered
pub always_ok : {X E : Type 0} {Q : Type 0} (r : Result X E) → Q → OnOk r Q
always_ok (Ok x) q = q
always_ok (Err e) q = tt

-- what refuses one part more refuses the call
pub add_hosts_fails : (v : MappingRows) (name hosts : List ℕ) (g : StorageGroupRows) → map.get v.groups name ≡ Some g → map.contains_key v.host_groups hosts ≡ true → (fault : MappingFault) → AddHostsLimit g hosts fault → AddHostsFails v name hosts fault
add_hosts_fails v name hosts g at known (Limit Parts) h = (known, (g, at, h))
add_hosts_fails v name hosts g at known Memory h = tt
add_hosts_fails v name hosts g at known _ h = absurd h

-- a target too many
pub add_target_fails : (v : MappingRows) (inventory : InventoryRows) (name : List ℕ) (target : ℕ) (g : StorageGroupRows) → map.get v.groups name ≡ Some g → IsPortOf inventory g.array target → (fault : MappingFault) → AddTargetLimit g target fault
    → AddTargetFails v inventory name target fault
add_target_fails v inventory name target g at held (Limit Parts) h = (g, at, (held, h))
add_target_fails v inventory name target g at held Memory h = tt
add_target_fails v inventory name target g at held _ h = absurd h

-- a unit that is taken, or one too many
pub map_fails : (v : MappingRows) (inventory : InventoryRows) (name : List ℕ) (unit : ℕ) (volume : List ℕ) (g : StorageGroupRows) → map.get v.groups name ≡ Some g → unit ≤ 16383 → IsVolumeOn inventory g.array volume → (fault : MappingFault)
    → MapRefusal g unit volume fault → MapFails v inventory name unit volume fault
map_fails v inventory name unit volume g at small on (UnitTaken u) h = (small, (g, at, (on, h)))
map_fails v inventory name unit volume g at small on (Limit Parts) h = (small, (g, at, (on, h)))
map_fails v inventory name unit volume g at small on Memory h = tt
map_fails v inventory name unit volume g at small on _ h = absurd h

-- a port that is found, by whom it is held
pub port_held : (ports : KnownPorts) (w : ℕ) (port : Port) → Some port ≡ port_at ports w → (is_some (map.get ports w) ≡ true) × (holder_in (map.get ports) w ≡ port.holder)
port_held ports w port is = by (map.get ports w) is
  where
    by : (o : Option Known) → Some port ≡ option_map (port_of w) o → (is_some o ≡ true) × (option_and_then (λ (k : Known). k.holder) o ≡ port.holder)
    by None e = absurd cc
    by (Some k) e = (refl, let f : port ≡ port_of w k = cc in ap (λ (x : Port). x.holder) (sym f))

-- a port that is not found is not known
pub port_missing : (ports : KnownPorts) (w : ℕ) → None ≡ port_at ports w → map.get ports w ≡ None
port_missing ports w is = by (map.get ports w) is
  where
    by : (o : Option Known) → None ≡ option_map (port_of w) o → o ≡ None
    by None e = refl
    by (Some k) e = absurd cc
