-- The steps of mapping: what refuses each beside an inventory, and what each makes of the mapping.
use Rattle.std.specs.Prelude.{ℕ, ◌≡◌, ◌≢◌, ◌≤◌, List, None, Some, true, false}
use Rattle.std.specs.FinMap as map
use Rattle.std.specs.FinSet as set
use Rattle.fab_reach_base.specs.fab_lemmas.Firsts.{IsFirstWithout}
use Rattle.fab_reach_base.specs.fab_lemmas.Room.{IsFull, IsFullSet}
use Rattle.fab_reach_base.specs.fab_inventory.Inventories.{InventoryRows, IsHost, IsArray}
use Rattle.fab_reach_base.specs.fab_mapping_base.Limits.{most_host_groups, most_storage_groups, most_groups_served, most_targets, most_units}
use Rattle.fab_reach_base.specs.fab_mapping_base.Groups.{StorageGroupRows, host_group_of, new_storage_group, with_hosts, without_hosts, with_target, without_target, with_unit, without_unit, exposed_as}
use Rattle.fab_reach_base.specs.fab_mapping.Mappings.{MappingRows, IsLeastServing, GroupHas, ChangesGroup, IsPortOf, IsVolumeOn}
use Rattle.fab_plans_text.specs.fab_plans_base.Steps.{PlanStep, host_group_put, host_group_drop, group_new, group_drop, group_host, group_unhost, group_target, group_untarget, group_map, group_unmap, group_expose, group_hide}
use Rattle.fab_plans.specs.Checks.{Check, own_name, other_names, right_array, free_unit, no_user, room, FailsWith, PassesAll}
use Rattle.fab_plans.specs.declared.fault.Item.TheVariants as item
use Rattle.fab_plans.specs.declared.fault.Refusal.{Refusal}
use Rattle.fab_plans.specs.declared.fault.Refusal.TheVariants.{Exists, Unknown, WrongArray, UnitTaken, InUse, Limit}
use Rattle.fab_plans.specs.declared.fault.StepLimit.TheVariants.{HostGroups, Groups, Parts}

-- there is no storage group of this name
abbrev pub HasNoGroup : MappingRows → List ℕ → Refusal → Type 0
HasNoGroup m n = FailsWith (Unknown (item.Name n)) (map.get m.groups n ≡ None)

-- another volume is at the unit
abbrev pub HasOtherVolume : ℕ → List ℕ → StorageGroupRows → Type 0
HasOtherVolume u volume g = (other : List ℕ) × (map.get g.units u ≡ Some other) × (other ≢ volume)

-- the check of the step fails, with this refusal: names that a step uses are there, a target or a
-- volume is on the array of the storage group, no other volume is at the unit, a host group that is
-- dropped is in no storage group, and no limit is passed
abbrev pub MappingFails : InventoryRows → MappingRows → PlanStep → Check → Refusal → Type 0
MappingFails v m (host_group_put n t hs) other_names = λ r. (host : List ℕ) × FailsWith (Unknown (item.Name host)) (IsFirstWithout (IsHost v.holders) hs host) r
MappingFails v m (host_group_put n t hs) room = FailsWith (Limit HostGroups) (IsFull m.host_groups n most_host_groups)
MappingFails v m (host_group_drop n) own_name = FailsWith (Unknown (item.Name n)) (map.contains_key m.host_groups n ≡ false)
MappingFails v m (host_group_drop n) no_user = λ r. (group : List ℕ) × FailsWith (InUse n group) (IsLeastServing (map.get m.groups) n group) r
MappingFails v m (group_new n t array) own_name = FailsWith (Exists n) (map.contains_key m.groups n ≡ true)
MappingFails v m (group_new n t array) other_names = FailsWith (Unknown (item.Name array)) (¬ IsArray v.holders array)
MappingFails v m (group_new n t array) room = FailsWith (Limit Groups) (most_storage_groups ≤ map.len m.groups)
MappingFails v m (group_drop n) own_name = HasNoGroup m n
MappingFails v m (group_host n k) own_name = HasNoGroup m n
MappingFails v m (group_host n k) other_names = FailsWith (Unknown (item.Name k)) (map.contains_key m.host_groups k ≡ false)
MappingFails v m (group_host n k) room = FailsWith (Limit Parts) (GroupHas m n (λ g. IsFullSet g.host_groups k most_groups_served))
MappingFails v m (group_unhost n k) own_name = HasNoGroup m n
MappingFails v m (group_unhost n k) other_names = FailsWith (Unknown (item.Name k)) (GroupHas m n (λ g. set.contains g.host_groups k ≡ false))
MappingFails v m (group_target n w) own_name = HasNoGroup m n
MappingFails v m (group_target n w) other_names = FailsWith (Unknown (item.Port w)) (map.get v.ports w ≡ None)
MappingFails v m (group_target n w) right_array = FailsWith (WrongArray (item.Port w)) (GroupHas m n (λ g. ¬ IsPortOf v g.array w))
MappingFails v m (group_target n w) room = FailsWith (Limit Parts) (GroupHas m n (λ g. IsFullSet g.targets w most_targets))
MappingFails v m (group_untarget n w) own_name = HasNoGroup m n
MappingFails v m (group_untarget n w) other_names = FailsWith (Unknown (item.Port w)) (GroupHas m n (λ g. set.contains g.targets w ≡ false))
MappingFails v m (group_map n u x) own_name = HasNoGroup m n
MappingFails v m (group_map n u x) other_names = FailsWith (Unknown (item.Name x)) (map.get v.volumes x ≡ None)
MappingFails v m (group_map n u x) right_array = FailsWith (WrongArray (item.Name x)) (GroupHas m n (λ g. ¬ IsVolumeOn v g.array x))
MappingFails v m (group_map n u x) free_unit = FailsWith (UnitTaken n u) (GroupHas m n (HasOtherVolume u x))
MappingFails v m (group_map n u x) room = FailsWith (Limit Parts) (GroupHas m n (λ g. IsFull g.units u most_units))
MappingFails v m (group_unmap n u) own_name = HasNoGroup m n
MappingFails v m (group_unmap n u) other_names = FailsWith (Unknown (item.Unit u)) (GroupHas m n (λ g. map.get g.units u ≡ None))
MappingFails v m (group_expose n) own_name = HasNoGroup m n
MappingFails v m (group_hide n) own_name = HasNoGroup m n
MappingFails v m _ _ = λ r. ⊥

-- what the step makes of the mapping: what is there already is not added again, a new storage group
-- is hidden and empty, and a dropped one goes with its parts
abbrev pub MappingMakes : PlanStep → MappingRows → MappingRows → Type 0
MappingMakes (host_group_put n t hs) old new = new ≡ record old { host_groups = map.insert old.host_groups n (host_group_of t hs) }
MappingMakes (host_group_drop n) old new = new ≡ record old { host_groups = map.remove old.host_groups n }
MappingMakes (group_new n t array) old new = new ≡ record old { groups = map.insert old.groups n (new_storage_group t array) }
MappingMakes (group_drop n) old new = new ≡ record old { groups = map.remove old.groups n }
MappingMakes (group_host n k) old new = ChangesGroup n (with_hosts k) old new
MappingMakes (group_unhost n k) old new = ChangesGroup n (without_hosts k) old new
MappingMakes (group_target n w) old new = ChangesGroup n (with_target w) old new
MappingMakes (group_untarget n w) old new = ChangesGroup n (without_target w) old new
MappingMakes (group_map n u x) old new = ChangesGroup n (with_unit u x) old new
MappingMakes (group_unmap n u) old new = ChangesGroup n (without_unit u) old new
MappingMakes (group_expose n) old new = ChangesGroup n (exposed_as true) old new
MappingMakes (group_hide n) old new = ChangesGroup n (exposed_as false) old new
MappingMakes _ old new = ⊥

-- the step is done: nothing refuses it, and this is what it makes
pub record MappingDone (inventory : InventoryRows) (step : PlanStep) (old new : MappingRows) : Type 0 where
  pub passes : PassesAll (MappingFails inventory old step)
  pub makes : MappingMakes step old new
