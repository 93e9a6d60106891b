-- Each step of mapping: nothing refuses it where the mapping accepts it, and what the mapping answers
-- is its first refusal.
use Rattle.std.proofs.Common.{ℕ, ◌≡◌, ◌≤◌, inl, inr, List, length, Option, None, Some, is_some, true, false, refl, sym, ap, ◌∙◌, subst, arith}
use Rattle.std.specs.FinMap as map
use Rattle.std.specs.Option.{option_and_then}
use Rattle.fab_reach_base.specs.fab_inventory.Inventories.{InventoryRows, IsHost}
use Rattle.fab_reach_base.specs.fab_inventory.declared.port.Known.{Known}
use Rattle.fab_reach_base.specs.fab_inventory.declared.holder.Volume.{Volume}
use Rattle.fab_reach_base.specs.fab_mapping_base.declared.fault.MappingFault.{MappingFault}
use Rattle.fab_reach_base.specs.fab_mapping_base.declared.fault.MappingFault.TheVariants as fault
use Rattle.fab_reach_base.specs.fab_mapping_base.declared.fault.MappingLimit.TheVariants as limit
use Rattle.fab_reach_base.specs.fab_mapping_base.declared.limits.TheConstants.{MOST_HOST_GROUPS}
use Rattle.fab_reach_base.specs.fab_mapping_base.Groups.{StorageGroupRows}
use Rattle.fab_reach_base.specs.fab_mapping.Mappings as base
use Rattle.fab_reach_base.specs.fab_mapping.Mappings.{MappingRows, GroupHas, IsPortOf, IsVolumeOn}
use Rattle.fab_plans_text.specs.fab_plans_base.Steps.{PlanStep, host_group_put, host_group_drop, group_host, group_unhost, group_target, group_untarget, group_map, group_unmap}
use Rattle.fab_plans.specs.Checks.{PassesAll, IsFirstRefusal}
use Rattle.fab_plans.specs.MappingSteps.{MappingFails, HasOtherVolume}
use Rattle.fab_plans.specs.Telling.{IsFaultOf, TellsMapping}
use Rattle.fab_plans.specs.declared.fault.Item.TheVariants as item
use Rattle.fab_plans.specs.declared.fault.Refusal.{Refusal}
use Rattle.fab_plans.specs.declared.fault.Refusal.TheVariants as refusal
use Rattle.fab_plans.proofs.FirstChecks.{passes_all, first_own, first_other, first_array, first_unit, first_user, first_room}
use Rattle.fab_plans.proofs.Facts.{not_both, none_without, room_or_full, one_value, some_or_none}

-- a check that no step has
none : (r : Refusal) → ⊥ → ⊥
none r h = h

-- what holds of a name, or a number, holds of the same one
for_same : {X : Type 0} (P : Refusal → Type 0) (tell : X → Refusal) (m n : X) → m ≡ n → P (tell n) → P (tell m)
for_same P tell m n same h = subst (λ x. P (tell x)) (sym same) h

-- what the storage group of a name has, it has not not
of_one : (m : MappingRows) (n : List ℕ) (P Q : StorageGroupRows → Type 0) → GroupHas m n P → GroupHas m n Q → ((g : StorageGroupRows) → P g → Q g → ⊥) → ⊥
of_one m n P Q h k apart = apart h.0 h.2 (subst Q (one_value k.1 h.1) k.2)

-- a key with no value is not there
gone_key : {X : Type 0} {o : Option X} → o ≡ None → is_some o ≡ false
gone_key e = ap is_some e

-- a port that a holder holds is known
held_is_known : (v : InventoryRows) (array : List ℕ) (w : ℕ) → IsPortOf v array w → map.get v.ports w ≡ None → ⊥
held_is_known v array w held gone = absurd (let e : option_and_then (λ (k : Known). k.holder) None ≡ Some array = sym (ap (option_and_then (λ (k : Known). k.holder)) gone) ∙ held in cc)

-- a volume that is on an array is there
on_is_known : (v : InventoryRows) (array x : List ℕ) → IsVolumeOn v array x → map.get v.volumes x ≡ None → ⊥
on_is_known v array x on gone = some_or_none on.1 gone

module _ (v : InventoryRows) (m : MappingRows) (n : List ℕ) where
  -- ---- host groups
  -- a first refusal that tells a name
  module _ (s : PlanStep) where
    abbrev First : Refusal → Type 0
    First = IsFirstRefusal (MappingFails v m s)

    abbrev told_name : List ℕ → Refusal
    told_name x = refusal.Unknown (item.Name x)

    named : (x y : List ℕ) → x ≡ y → First (told_name y) → First (told_name x)
    named = for_same First told_name

  pub host_group_put_passes : (t : List ℕ) (hs : List (List ℕ)) → base.CanPutHostGroup m v n hs → PassesAll (MappingFails v m (host_group_put n t hs))
  host_group_put_passes t hs can =
      passes_all (MappingFails v m (host_group_put n t hs)) none (λ r h. none_without (IsHost v.holders) hs h.0 can.known h.1.1) none none none (λ r h. room_or_full m.host_groups n MOST_HOST_GROUPS can.room h.1)

  pub host_group_put_told : (t : List ℕ) (hs : List (List ℕ)) → length hs ≤ 255 → (e : MappingFault) → base.PutHostGroupFails m v n hs e → TellsMapping (host_group_put n t hs) (IsFaultOf (MappingFails v m (host_group_put n t hs))) e
  host_group_put_told t hs few (fault.Limit limit.Hosts) h = absurd (omega (arith, few, h))
  host_group_put_told t hs few (fault.Unknown x) h =
      first_other (MappingFails v m (host_group_put n t hs)) _ (x, (refl, h.1)) none
  host_group_put_told t hs few (fault.Limit limit.HostGroups) h =
      first_room (MappingFails v m (host_group_put n t hs)) _ (refl, h.2) none (λ r k. none_without (IsHost v.holders) hs k.0 h.1 k.1.1) none none none
  host_group_put_told t hs few fault.Memory h = tt
  host_group_put_told t hs few _ h = absurd h

  pub host_group_drop_passes : map.contains_key m.host_groups n ≡ true → base.IsUnservedIn (map.get m.groups) n → PassesAll (MappingFails v m (host_group_drop n))
  host_group_drop_passes known unused = passes_all (MappingFails v m (host_group_drop n)) (λ r h. not_both known h.1) none none none (λ r h. unused h.0 h.1.1.0) none

  pub host_group_drop_told : (e : MappingFault) → base.DropHostGroupFails m n e → TellsMapping (host_group_drop n) (IsFaultOf (MappingFails v m (host_group_drop n))) e
  host_group_drop_told (fault.Unknown x) h = named (host_group_drop n) x n h.0 (first_own (MappingFails v m (host_group_drop n)) _ (refl, h.1))
  host_group_drop_told (fault.InUse x by) h =
      for_same (First (host_group_drop n)) (λ y. refusal.InUse y by) x n h.0 (first_user (MappingFails v m (host_group_drop n)) _ (by, (refl, h.2)) (λ r k. not_both h.1 k.1) none none none)
  host_group_drop_told _ h = absurd h

  -- ---- host groups of a storage group

  pub group_host_told : (k : List ℕ) (e : MappingFault) → base.AddHostsFails m n k e → TellsMapping (group_host n k) (IsFaultOf (MappingFails v m (group_host n k))) e
  group_host_told k (fault.Unknown x) (inl h) = named (group_host n k) x n h.0 (first_own (MappingFails v m (group_host n k)) _ (refl, h.1))
  group_host_told k (fault.Unknown x) (inr h) = named (group_host n k) x k h.0 (first_other (MappingFails v m (group_host n k)) _ (refl, h.1.2) (λ r q. some_or_none h.1.1 q.1))
  group_host_told k (fault.Limit limit.Parts) h = first_room (MappingFails v m (group_host n k)) _ (refl, h.1) (λ r q. some_or_none h.1.1 q.1) (λ r q. not_both h.0 q.1) none none none
  group_host_told k fault.Memory h = tt
  group_host_told k _ h = absurd h

  pub group_unhost_told : (k : List ℕ) (e : MappingFault) → base.RemoveHostsFails m n k e → TellsMapping (group_unhost n k) (IsFaultOf (MappingFails v m (group_unhost n k))) e
  group_unhost_told k (fault.Unknown x) (inl h) = named (group_unhost n k) x n h.0 (first_own (MappingFails v m (group_unhost n k)) _ (refl, h.1))
  group_unhost_told k (fault.Unknown x) (inr h) = named (group_unhost n k) x k h.0 (first_other (MappingFails v m (group_unhost n k)) _ (refl, h.1) (λ r q. some_or_none h.1.1 q.1))
  group_unhost_told k _ h = absurd h

  -- ---- targets of a storage group

  pub group_target_told : (w : ℕ) (e : MappingFault) → base.AddTargetFails m v n w e → TellsMapping (group_target n w) (IsFaultOf (MappingFails v m (group_target n w))) e
  group_target_told w (fault.Unknown x) h = named (group_target n w) x n h.0 (first_own (MappingFails v m (group_target n w)) _ (refl, h.1))
  group_target_told w (fault.UnknownPort x) h =
      for_same (First (group_target n w)) (λ y. refusal.Unknown (item.Port y)) x w h.0 (first_other (MappingFails v m (group_target n w)) _ (refl, h.1.2) (λ r q. some_or_none h.1.1 q.1))
  group_target_told w fault.WrongArray h =
      first_array (MappingFails v m (group_target n w)) _ (refl, (h.0, h.1, h.2.1)) (λ r q. some_or_none h.1 q.1) (λ r q. not_both h.2.0 (gone_key q.1))
  group_target_told w (fault.Limit limit.Parts) h =
      first_room (MappingFails v m (group_target n w)) _ (refl, (h.0, h.1, h.2.1)) (λ r q. some_or_none h.1 q.1) (λ r q. held_is_known v h.0.array w h.2.0 q.1)
      (λ r q. of_one m n (λ g. IsPortOf v g.array w) (λ g. ¬ IsPortOf v g.array w) (h.0, h.1, h.2.0) q.1 (λ g held not_held. not_held held)) none none
  group_target_told w fault.Memory h = tt
  group_target_told w _ h = absurd h

  pub group_untarget_told : (w : ℕ) (e : MappingFault) → base.RemoveTargetFails m n w e → TellsMapping (group_untarget n w) (IsFaultOf (MappingFails v m (group_untarget n w))) e
  group_untarget_told w (fault.Unknown x) h = named (group_untarget n w) x n h.0 (first_own (MappingFails v m (group_untarget n w)) _ (refl, h.1))
  group_untarget_told w (fault.UnknownPort x) h =
      for_same (First (group_untarget n w)) (λ y. refusal.Unknown (item.Port y)) x w h.0 (first_other (MappingFails v m (group_untarget n w)) _ (refl, h.1) (λ r q. some_or_none h.1.1 q.1))
  group_untarget_told w _ h = absurd h

  -- ---- volumes of a storage group
  module _ (u : ℕ) (x : List ℕ) where
    not_elsewhere : (g : StorageGroupRows) → IsVolumeOn v g.array x → ¬ IsVolumeOn v g.array x → ⊥
    not_elsewhere g on off = off on

    -- a volume on another array is not on this
    elsewhere : (g : StorageGroupRows) → base.IsVolumeElsewhere v g.array x → ¬ IsVolumeOn v g.array x
    elsewhere g other on = other.2 (ap (λ (y : Volume). y.array) (one_value other.1 on.1) ∙ on.2)

    pub group_map_told : u ≤ 16383 → (e : MappingFault) → base.MapFails m v n u x e → TellsMapping (group_map n u x) (IsFaultOf (MappingFails v m (group_map n u x))) e
    group_map_told small (fault.Limit limit.UnitNumber) h = absurd (omega (arith, small, h))
    group_map_told small (fault.Unknown y) h = elim h.1 [
      | inl gone ↦ named (group_map n u x) y n gone.0 (first_own (MappingFails v m (group_map n u x)) _ (refl, gone.1))
      | inr gone ↦ named (group_map n u x) y x gone.0 (first_other (MappingFails v m (group_map n u x)) _ (refl, gone.1.2) (λ r q. some_or_none gone.1.1 q.1))
    ]
    group_map_told small fault.WrongArray h =
        first_array (MappingFails v m (group_map n u x)) _ (refl, (h.1.0, h.1.1, elsewhere h.1.0 h.1.2)) (λ r q. some_or_none h.1.1 q.1) (λ r q. some_or_none h.1.2.1 q.1)
    group_map_told small (fault.UnitTaken w) h =
        for_same (First (group_map n u x)) (refusal.UnitTaken n) w u h.1.2.1.0 (first_unit (MappingFails v m (group_map n u x)) _ (refl, (h.1.0, h.1.1, h.1.2.1.1)) (λ r q. some_or_none h.1.1 q.1) (λ r q. on_is_known v h.1.0.array x h.1.2.0 q.1)
        (λ r q. of_one m n (λ g. IsVolumeOn v g.array x) (λ g. ¬ IsVolumeOn v g.array x) (h.1.0, h.1.1, h.1.2.0) q.1 not_elsewhere))
    group_map_told small (fault.Limit limit.Parts) h =
        first_room (MappingFails v m (group_map n u x)) _ (refl, (h.1.0, h.1.1, (gone_key h.1.2.1.0, h.1.2.1.1))) (λ r q. some_or_none h.1.1 q.1) (λ r q. on_is_known v h.1.0.array x h.1.2.0 q.1)
        (λ r q. of_one m n (λ g. IsVolumeOn v g.array x) (λ g. ¬ IsVolumeOn v g.array x) (h.1.0, h.1.1, h.1.2.0) q.1 not_elsewhere)
        (λ r q. of_one m n (λ g. map.get g.units u ≡ None) (HasOtherVolume u x) (h.1.0, h.1.1, h.1.2.1.0) q.1 (λ g gone other. some_or_none other.1 gone)) none
    group_map_told small fault.Memory h = tt
    group_map_told small _ h = absurd h

  pub group_unmap_told : (u : ℕ) (e : MappingFault) → base.UnmapFails m n u e → TellsMapping (group_unmap n u) (IsFaultOf (MappingFails v m (group_unmap n u))) e
  group_unmap_told u (fault.Unknown x) h = named (group_unmap n u) x n h.0 (first_own (MappingFails v m (group_unmap n u)) _ (refl, h.1))
  group_unmap_told u (fault.NotMapped w) h =
      for_same (First (group_unmap n u)) (λ y. refusal.Unknown (item.Unit y)) w u h.0 (first_other (MappingFails v m (group_unmap n u)) _ (refl, h.1) (λ r q. some_or_none h.1.1 q.1))
  group_unmap_told u _ h = absurd h
