-- Each step keeps a mapping sound, and lets one that fits an inventory fit.
use Rattle.std.proofs.Common.{ℕ, ◌≡◌, ◌<◌, ◌≤◌, List, [], length, Option, None, Some, is_some, IsSome, Bool, true, inl, inr, All, sym, ap, ◌∙◌, subst, arith}
use mathlib.Core.Bool.{true≢false}
use Rattle.std.specs.Ordering.{nat_cmp}
use Rattle.std.specs.Cmp.{nat_cmp_total}
use Rattle.std.specs.BTreeMap as tree
use Rattle.std.specs.BTreeMap.{BTreeMap, UpdatesBy}
use Rattle.std.specs.FinMap as map
use Rattle.std.specs.FinSet as set
use Rattle.std.proofs.lemmas.List.Elements.{All-contains}
use Rattle.fab_mapping_base.proofs.fab_lemmas.Changed.{member_put, member_gone, entry_put, entry_gone, still_there, there_without}
use Rattle.fab_mapping_base.proofs.fab_lemmas.SeenMaps.{same_look_ups}
use Rattle.fab_mapping_base.proofs.fab_lemmas.SeenSets.{listed_decides}
use Rattle.fab_mapping_base.proofs.fab_lemmas.Sizes.{set_put, set_gone, map_put, map_gone, some_listed, at_most_listed}
use Rattle.fab_mapping_base.specs.fab_names.Orders.{name_cmp}
use Rattle.fab_mapping_base.proofs.fab_names.OrderLaws.{name_total, name_exact}
use Rattle.fab_mapping_base.specs.fab_inventory.Inventories.{InventoryRows, IsHost}
use Rattle.fab_mapping_base.specs.declared.limits.TheConstants.{LAST_UNIT}
use Rattle.fab_mapping_base.specs.Groups.{HostGroupRows, StorageGroupRows, host_group_of, new_storage_group, with_hosts, without_hosts, with_target, without_target, with_unit, without_unit, exposed_as, HasRoomForHosts, HasRoomForTarget, HasRoomForUnit}
use Rattle.fab_mapping_base.specs.Clashes.{HostGroups}
use Rattle.fab_mapping_base.specs.Fitting.{IsPortOf, IsVolumeOn, HasHosts, GroupFits}
use Rattle.fab_mapping_base.specs.Soundness.{IsSoundHostGroup, IsSoundGroup}
use Rattle.fab_mapping.specs.Mappings.{MappingRows, no_groups, CanPutHostGroup, CanMakeGroup, IsUnservedIn, ChangesGroup, GroupHas}
use Rattle.fab_mapping.specs.Soundness.{IsSound, Fits, Keeps, KeepsAll}
use Rattle.fab_mapping.proofs.GroupChanges.{seen, hosts_dropped, group_dropped}

-- a host group that is put
put_hosts : (tenant : List ℕ) (hosts : List (List ℕ)) (most : ℕ) → 0 < length hosts → length hosts ≤ most → (0 < set.len (host_group_of tenant hosts).hosts) × (set.len (host_group_of tenant hosts).hosts ≤ most)
put_hosts tenant hosts most some few = (some_listed name_total hosts some, let e = at_most_listed name_total hosts in omega (arith, e, few))

listed_hosts : (inventory : InventoryRows) (tenant : List ℕ) (hosts : List (List ℕ)) → All (IsHost inventory.holders) hosts → HasHosts inventory (host_group_of tenant hosts)
listed_hosts inventory tenant hosts all host there =
    All-contains (IsHost inventory.holders) hosts host all ((listed_decides name_total name_exact hosts host).0 there)

-- a storage group beside other host groups
known_beside : (a b : HostGroups) (g : StorageGroupRows) → ((k : List ℕ) → set.contains g.host_groups k ≡ true → IsSome (a k) → IsSome (b k)) → IsSoundGroup a g → IsSoundGroup b g
known_beside a b g keeps h = record { parts = h.parts; numbers = h.numbers; known = λ k there. keeps k there (h.known k there) }

-- ---- one part more, or one less
module _ (known : HostGroups) (g : StorageGroupRows) (h : IsSoundGroup known g) where
  pub hosts_put : (k : List ℕ) → IsSome (known k) → HasRoomForHosts g k → IsSoundGroup known (with_hosts k g)
  hosts_put k there room = record {
    parts = record { few_host_groups = set_put name_total g.host_groups k _ room h.parts.few_host_groups; few_targets = h.parts.few_targets; few_units = h.parts.few_units };
    numbers = h.numbers;
    known = λ n is. elim (member_put name_total name_exact g.host_groups k n is) [ inl e ↦ subst (λ q. IsSome (known q)) (sym e) there | inr e ↦ h.known n e ];
  }

  pub hosts_gone : (k : List ℕ) → IsSoundGroup known (without_hosts k g)
  hosts_gone k = record {
    parts = record { few_host_groups = set_gone name_total g.host_groups k _ h.parts.few_host_groups; few_targets = h.parts.few_targets; few_units = h.parts.few_units };
    numbers = h.numbers;
    known = λ n is. h.known n (member_gone name_total g.host_groups k n is);
  }

  pub exposed_sound : (exposed : Bool) → IsSoundGroup known (exposed_as exposed g)
  exposed_sound exposed = record {
    parts = record { few_host_groups = h.parts.few_host_groups; few_targets = h.parts.few_targets; few_units = h.parts.few_units };
    numbers = h.numbers;
    known = h.known;
  }

  pub target_put : (q : ℕ) → HasRoomForTarget g q → IsSoundGroup known (with_target q g)
  target_put q room = record {
    parts = record { few_host_groups = h.parts.few_host_groups; few_targets = set_put nat_cmp_total g.targets q _ room h.parts.few_targets; few_units = h.parts.few_units };
    numbers = h.numbers;
    known = h.known;
  }

  pub target_gone : (q : ℕ) → IsSoundGroup known (without_target q g)
  target_gone q = record {
    parts = record { few_host_groups = h.parts.few_host_groups; few_targets = set_gone nat_cmp_total g.targets q _ h.parts.few_targets; few_units = h.parts.few_units };
    numbers = h.numbers;
    known = h.known;
  }

  pub unit_put : (u : ℕ) (volume : List ℕ) → u ≤ LAST_UNIT → HasRoomForUnit g u → IsSoundGroup known (with_unit u volume g)
  unit_put u volume small room = record {
    parts = record { few_host_groups = h.parts.few_host_groups; few_targets = h.parts.few_targets; few_units = map_put nat_cmp_total g.units u volume _ room h.parts.few_units };
    numbers = entry_put nat_cmp_total g.units u set.nat_cmp-IsAntisymmetric (λ n _. n ≤ LAST_UNIT) volume small h.numbers;
    known = h.known;
  }

  pub unit_gone : (u : ℕ) → IsSoundGroup known (without_unit u g)
  unit_gone u = record {
    parts = record { few_host_groups = h.parts.few_host_groups; few_targets = h.parts.few_targets; few_units = map_gone nat_cmp_total g.units u _ h.parts.few_units };
    numbers = entry_gone nat_cmp_total g.units u (λ n _. n ≤ LAST_UNIT) h.numbers;
    known = h.known;
  }

-- the same of an inventory
module _ (inventory : InventoryRows) (g : StorageGroupRows) (h : GroupFits inventory g) where
  pub hosts_put_fits : (k : List ℕ) → GroupFits inventory (with_hosts k g)
  hosts_put_fits k = record { on_array = h.on_array; targets = h.targets; volumes = h.volumes }

  pub hosts_gone_fits : (k : List ℕ) → GroupFits inventory (without_hosts k g)
  hosts_gone_fits k = record { on_array = h.on_array; targets = h.targets; volumes = h.volumes }

  pub exposed_fits : (exposed : Bool) → GroupFits inventory (exposed_as exposed g)
  exposed_fits exposed = record { on_array = h.on_array; targets = h.targets; volumes = h.volumes }

  pub target_put_fits : (q : ℕ) → IsPortOf inventory g.array q → GroupFits inventory (with_target q g)
  target_put_fits q held = record {
    on_array = h.on_array;
    targets = λ n is. elim (member_put nat_cmp_total set.nat_cmp-IsAntisymmetric g.targets q n is) [ inl e ↦ subst (IsPortOf inventory g.array) (sym e) held | inr e ↦ h.targets n e ];
    volumes = h.volumes;
  }

  pub target_gone_fits : (q : ℕ) → GroupFits inventory (without_target q g)
  target_gone_fits q = record { on_array = h.on_array; targets = λ n is. h.targets n (member_gone nat_cmp_total g.targets q n is); volumes = h.volumes }

  pub unit_put_fits : (u : ℕ) (volume : List ℕ) → IsVolumeOn inventory g.array volume → GroupFits inventory (with_unit u volume g)
  unit_put_fits u volume on = record { on_array = h.on_array; targets = h.targets; volumes = entry_put nat_cmp_total g.units u set.nat_cmp-IsAntisymmetric (λ _ x. IsVolumeOn inventory g.array x) volume on h.volumes }

  pub unit_gone_fits : (u : ℕ) → GroupFits inventory (without_unit u g)
  unit_gone_fits u = record { on_array = h.on_array; targets = h.targets; volumes = entry_gone nat_cmp_total g.units u (λ _ x. IsVolumeOn inventory g.array x) h.volumes }

-- ---- the steps
-- one storage group becomes another
pub change_keeps : (v w : MappingRows) (name : List ℕ) (change : StorageGroupRows → StorageGroupRows) (inventory : InventoryRows) → ChangesGroup name change v w
    → ((g : StorageGroupRows) → map.get v.groups name ≡ Some g → IsSoundGroup (map.get v.host_groups) g → IsSoundGroup (map.get v.host_groups) (change g))
    → ((g : StorageGroupRows) → map.get v.groups name ≡ Some g → GroupFits inventory g → GroupFits inventory (change g)) → Keeps inventory v w
change_keeps v w name change inventory c sound fits = subst (Keeps inventory v) (sym c.after) (record {
  sound = λ s. record {
    host_groups = s.host_groups;
    groups = entry_put name_total v.groups name name_exact (λ _. IsSoundGroup (map.get v.host_groups)) (change c.group) (sound c.group c.there (s.groups name c.group c.there)) s.groups;
    few_host_groups = s.few_host_groups;
    few_groups = map_put name_total v.groups name (change c.group) _ (inl (ap is_some c.there)) s.few_groups;
  };
  fits = λ f. record {
    host_groups = f.host_groups;
    groups = entry_put name_total v.groups name name_exact (λ _. GroupFits inventory) (change c.group) (fits c.group c.there (f.groups name c.group c.there)) f.groups;
  };
})

-- the storage group that is there has what a storage group there has
pub of_group : (v : MappingRows) (name : List ℕ) (P : StorageGroupRows → Type 0) → GroupHas v name P → (g : StorageGroupRows) → map.get v.groups name ≡ Some g → P g
of_group v name P h g at = let e : ◌≡◌ {A = Option StorageGroupRows} (Some h.0) (Some g) = sym h.1 ∙ at in let same : h.0 ≡ g = cc in subst P same h.2

pub put_host_group_keeps : (v : MappingRows) (inventory : InventoryRows) (name tenant : List ℕ) (hosts : List (List ℕ)) → 0 < length hosts → CanPutHostGroup v inventory name hosts → Keeps inventory v (record v { host_groups = map.insert v.host_groups name (host_group_of tenant hosts) })
put_host_group_keeps v inventory name tenant hosts some can = record {
  sound = λ s. record {
    host_groups = entry_put name_total v.host_groups name name_exact (λ _. IsSoundHostGroup) (host_group_of tenant hosts) (let n = put_hosts tenant hosts _ some can.few in record { some_host = n.0; few_hosts = n.1 }) s.host_groups;
    groups = λ n g at. known_beside (map.get v.host_groups) _ g (λ k there. still_there name_total v.host_groups name (host_group_of tenant hosts) k) (s.groups n g at);
    few_host_groups = map_put name_total v.host_groups name (host_group_of tenant hosts) _ can.room s.few_host_groups;
    few_groups = s.few_groups;
  };
  fits = λ f. record { host_groups = entry_put name_total v.host_groups name name_exact (λ _. HasHosts inventory) (host_group_of tenant hosts) (listed_hosts inventory tenant hosts can.known) f.host_groups; groups = f.groups };
}

pub drop_host_group_keeps : (v : MappingRows) (name : List ℕ) → IsUnservedIn (map.get v.groups) name → KeepsAll v (record v { host_groups = map.remove v.host_groups name })
drop_host_group_keeps v name unused inventory = record {
  sound = λ s. record {
    host_groups = entry_gone name_total v.host_groups name (λ _. IsSoundHostGroup) s.host_groups;
    groups = λ n g at. known_beside (map.get v.host_groups) _ g (λ k there. there_without name_total v.host_groups name name_exact k (λ same. unused n (g, at, subst (λ q. set.contains g.host_groups q ≡ true) same there))) (s.groups n g at);
    few_host_groups = map_gone name_total v.host_groups name _ s.few_host_groups;
    few_groups = s.few_groups;
  };
  fits = λ f. record { host_groups = entry_gone name_total v.host_groups name (λ _. HasHosts inventory) f.host_groups; groups = f.groups };
}

-- the same of what the code holds
pub hosts_dropped_keeps : (hosts new : BTreeMap (List ℕ) HostGroupRows) (groups : BTreeMap (List ℕ) StorageGroupRows) (k : List ℕ) (v : MappingRows) → seen hosts groups ≡ v
    → UpdatesBy name_cmp (name_cmp k) hosts new None → IsUnservedIn (tree.get name_cmp groups) k → (inventory : InventoryRows) → Keeps inventory v (seen new groups)
hosts_dropped_keeps hosts new groups k v view updates unused =
    subst (KeepsAll v) (sym (hosts_dropped hosts new groups k v view updates)) (drop_host_group_keeps v k (subst (λ at. IsUnservedIn at k) (same_look_ups name_total groups v.groups (ap (λ (x : MappingRows). x.groups) view)) unused))

-- a new storage group has nothing
nothing : {X : Type 0} (x : X) → ¬ (None ≡ Some x)
nothing x e = absurd cc

new_is_sound : (known : HostGroups) (tenant array : List ℕ) → IsSoundGroup known (new_storage_group tenant array)
new_is_sound known tenant array = record {
  parts = record {
    few_host_groups = let e = set.len-empty name_cmp in omega arith;
    few_targets = let e = set.len-empty nat_cmp in omega arith;
    few_units = let e = map.len-empty nat_cmp (List ℕ) in omega arith;
  };
  numbers = λ u x at. absurd (nothing x (sym (map.get-empty nat_cmp u) ∙ at));
  known = λ k is. absurd (true≢false (sym is ∙ set.contains-empty name_cmp k));
}

pub new_group_keeps : (v : MappingRows) (inventory : InventoryRows) (name tenant array : List ℕ) → CanMakeGroup v inventory name array → Keeps inventory v (record v { groups = map.insert v.groups name (new_storage_group tenant array) })
new_group_keeps v inventory name tenant array can = record {
  sound = λ s. record {
    host_groups = s.host_groups;
    groups = entry_put name_total v.groups name name_exact (λ _. IsSoundGroup (map.get v.host_groups)) (new_storage_group tenant array) (new_is_sound (map.get v.host_groups) tenant array) s.groups;
    few_host_groups = s.few_host_groups;
    few_groups = map_put name_total v.groups name (new_storage_group tenant array) _ (inr can.room) s.few_groups;
  };
  fits = λ f. record {
    host_groups = f.host_groups;
    groups = entry_put name_total v.groups name name_exact (λ _. GroupFits inventory) (new_storage_group tenant array) (record {
      on_array = can.on_array;
      targets = λ q is. absurd (true≢false (sym is ∙ set.contains-empty nat_cmp q));
      volumes = λ u x at. absurd (nothing x (sym (map.get-empty nat_cmp u) ∙ at));
    }) f.groups;
  };
}

pub drop_group_keeps : (v : MappingRows) (name : List ℕ) → KeepsAll v (record v { groups = map.remove v.groups name })
drop_group_keeps v name inventory = record {
  sound = λ s. record {
    host_groups = s.host_groups;
    groups = entry_gone name_total v.groups name (λ _. IsSoundGroup (map.get v.host_groups)) s.groups;
    few_host_groups = s.few_host_groups;
    few_groups = map_gone name_total v.groups name _ s.few_groups;
  };
  fits = λ f. record { host_groups = f.host_groups; groups = entry_gone name_total v.groups name (λ _. GroupFits inventory) f.groups };
}

-- the same of what the code holds
pub group_dropped_keeps : (hosts : BTreeMap (List ℕ) HostGroupRows) (groups new : BTreeMap (List ℕ) StorageGroupRows) (k : List ℕ) (v : MappingRows) → seen hosts groups ≡ v
    → UpdatesBy name_cmp (name_cmp k) groups new None → (inventory : InventoryRows) → Keeps inventory v (seen hosts new)
group_dropped_keeps hosts groups new k v view updates = subst (KeepsAll v) (sym (group_dropped hosts groups new k v view updates)) (drop_group_keeps v k)

-- nothing is sound, and fits any inventory
pub none_is_sound : IsSound no_groups
none_is_sound = record {
  host_groups = λ n g at. absurd (nothing g (sym (map.get-empty name_cmp n) ∙ at));
  groups = λ n g at. absurd (nothing g (sym (map.get-empty name_cmp n) ∙ at));
  few_host_groups = let e = map.len-empty name_cmp HostGroupRows in omega arith;
  few_groups = let e = map.len-empty name_cmp StorageGroupRows in omega arith;
}

pub none_fits : (inventory : InventoryRows) → Fits inventory no_groups
none_fits inventory = record { host_groups = λ n g at. absurd (nothing g (sym (map.get-empty name_cmp n) ∙ at)); groups = λ n g at. absurd (nothing g (sym (map.get-empty name_cmp n) ∙ at)) }

-- the same of what the code holds
pub nothing_is_sound : (host_groups : List (List ℕ × HostGroupRows)) (groups : List (List ℕ × StorageGroupRows)) → host_groups ≡ [] → groups ≡ [] → IsSound (record { host_groups = map.from_entries host_groups; groups = map.from_entries groups })
nothing_is_sound host_groups groups a b = rw (a, b) none_is_sound

pub nothing_fits : (host_groups : List (List ℕ × HostGroupRows)) (groups : List (List ℕ × StorageGroupRows)) → host_groups ≡ [] → groups ≡ [] → (inventory : InventoryRows) → Fits inventory (record { host_groups = map.from_entries host_groups; groups = map.from_entries groups })
nothing_fits host_groups groups a b inventory = rw (a, b) (none_fits inventory)
