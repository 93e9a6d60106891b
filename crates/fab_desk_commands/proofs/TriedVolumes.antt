-- What a command on a volume that is tried makes, and what refuses it.
use Rattle.std.proofs.Common.{ℕ, ◌≡◌, List, is_some, refl, sym, ap, ◌∙◌, subst, arith}
use mathlib.Core.Bool.{true≢false}
use Rattle.std.specs.FinMap as map
use Rattle.fab_reach_base.specs.fab_inventory.Inventories as inventories
use Rattle.fab_reach_base.specs.fab_inventory.Inventories.{IsCapacity, CanPutVolume, PutVolumeFails}
use Rattle.fab_reach_base.specs.fab_inventory.declared.fault.InventoryFault.{InventoryFault}
use Rattle.fab_reach_base.specs.fab_inventory.declared.fault.InventoryFault.TheVariants.{Unknown, Limit, Memory}
use Rattle.fab_reach_base.specs.fab_inventory.declared.fault.InventoryLimit.TheVariants.{Volumes, Bytes}
use Rattle.fab_reach_base.specs.fab_inventory.declared.holder.Volume.{Volume}
use Rattle.fab_reach_base.specs.fab_mapping_base.Groups.{MapsVolume}
use Rattle.fab_reach_base.specs.fab_mapping.Soundness.{Fits}
use Rattle.fab_world.specs.fab_plans.declared.fault.Item.TheVariants as item
use Rattle.fab_world.specs.Worlds.{WorldRows}
use Rattle.fab_desk_base.specs.Effects.{counted, with_inventory}
use Rattle.fab_desk_base.specs.Refusals.{others, no_user, room, IsFirstFault}
use Rattle.fab_desk_base.specs.Trying.{IsMade, IsTryFault}
use Rattle.fab_desk_base.specs.Users.{IsVolumeUser, IsMovedUser}
use Rattle.fab_desk_base.specs.declared.command.Command.TheVariants.{PutVolume, DropVolume}
use Rattle.fab_desk_base.specs.declared.fault.DeskFault.{DeskFault}
use Rattle.fab_desk_base.specs.declared.fault.DeskFault.TheVariants as fault
use Rattle.fab_desk_commands.specs.Answered.{answered}
use Rattle.fab_desk_commands.specs.Keeping.{IsMappedBy}
use Rattle.fab_desk_commands.proofs.Checks.{volume_put_passes, volume_dropped_passes}
use Rattle.fab_desk_commands.proofs.NoUser.{no_first}
use Rattle.fab_desk_commands.proofs.StillFits.{fits_volume_put, fits_volume_dropped}

-- the inventory after a put of a volume
pub record VolumePutTried (n : List ℕ) (x : Volume) (old new : inventories.InventoryRows) : Type 0 where
  pub can : CanPutVolume old n x.array x.bytes
  pub put : new ≡ record old { volumes = map.insert old.volumes n x }
  pub sound : inventories.IsSound new

pub volume_put_fits : (w : WorldRows) (n : List ℕ) (x : Volume) (v : inventories.InventoryRows) → VolumePutTried n x w.inventory v → ((g : List ℕ) → ¬ IsMovedUser w.inventory w.config.mapping n x.array g) → Fits w.inventory w.config.mapping → Fits v w.config.mapping
volume_put_fits w n x v tried stays fits =
    subst (λ v. Fits v w.config.mapping) (sym tried.put)
    (fits_volume_put n x w.config.mapping w.inventory (λ moved u. no_first w.config.mapping.groups (MapsVolume n) (λ g first. stays g (moved, first)) u.0 u.1) fits)

module _ (A : Type 0) (w : WorldRows) (caller n : List ℕ) (x : Volume) where
  pub volume_put_made : (v : inventories.InventoryRows) → VolumePutTried n x w.inventory v → ((g : List ℕ) → ¬ IsMovedUser w.inventory w.config.mapping n x.array g) → IsMade {A = A} w caller (PutVolume n x) (counted (with_inventory v w))
  volume_put_made v tried stays = record {
    passes = volume_put_passes A w caller 12 (omega arith) n x (λ lt. tried.can.on_array) (λ lt. stays) (λ lt full. let few = tried.can.room full.0 in let many = full.1 in omega (arith, few, many));
    makes = ap (λ v. counted (with_inventory v w)) tried.put;
  }

  pub volume_put_refused : IsCapacity x.bytes → (e : InventoryFault) → PutVolumeFails w.inventory n x.array x.bytes e → IsTryFault {A = A} w caller (PutVolume n x) (answered e)
  volume_put_refused given (Unknown m) h = record {
    check = others;
    here = (ap (λ a. fault.Unknown (item.Name a)) h.1, h.2);
    before = volume_put_passes A w caller 3 (omega arith) n x (λ lt. absurd (omega (arith, lt))) (λ lt. absurd (omega (arith, lt))) (λ lt. absurd (omega (arith, lt)));
  }
  volume_put_refused given (Limit Bytes) h = absurd (h given)
  volume_put_refused given (Limit Volumes) h = record {
    check = room;
    here = (refl, (h.2, h.3));
    before = volume_put_passes A w caller 11 (omega arith) n x (λ lt. h.1) (λ lt g user. true≢false (sym (ap is_some user.0.1) ∙ h.2)) (λ lt. absurd (omega (arith, lt)));
  }
  volume_put_refused given Memory h = tt
  volume_put_refused given _ h = absurd h

  pub volume_put_used : CanPutVolume w.inventory n x.array x.bytes → (g : List ℕ) → IsMovedUser w.inventory w.config.mapping n x.array g → IsFirstFault {A = A} w caller (PutVolume n x) (fault.InUse (item.Name n) g)
  volume_put_used can g user = record {
    check = no_user;
    here = (g, (refl, user));
    before = volume_put_passes A w caller 5 (omega arith) n x (λ lt. can.on_array) (λ lt. absurd (omega (arith, lt))) (λ lt. absurd (omega (arith, lt)));
  }

-- ---- volumes that are dropped

module _ (A : Type 0) (w : WorldRows) (caller n : List ℕ) where
  pub volume_dropped_used : (r : DeskFault) → IsMappedBy w.config.mapping n r → IsTryFault {A = A} w caller (DropVolume n) r
  volume_dropped_used (fault.InUse (item.Name a) user) h = record {
    check = no_user;
    here = (user, (ap (λ b. fault.InUse (item.Name b) user) h.0, h.1));
    before = volume_dropped_passes A w caller 5 (omega arith) n (λ lt. absurd (omega (arith, lt)));
  }
  volume_dropped_used _ h = absurd h

  pub volume_dropped_made : (v : inventories.InventoryRows) → v ≡ record w.inventory { volumes = map.remove w.inventory.volumes n } → ((g : List ℕ) → ¬ IsVolumeUser w.config.mapping n g) → IsMade {A = A} w caller (DropVolume n) (counted (with_inventory v w))
  volume_dropped_made v dropped unused = record { passes = volume_dropped_passes A w caller 12 (omega arith) n (λ lt. unused); makes = ap (λ v. counted (with_inventory v w)) dropped }

pub volume_dropped_fits : (w : WorldRows) (n : List ℕ) (v : inventories.InventoryRows) → v ≡ record w.inventory { volumes = map.remove w.inventory.volumes n } → ((g : List ℕ) → ¬ IsVolumeUser w.config.mapping n g) → Fits w.inventory w.config.mapping → Fits v w.config.mapping
volume_dropped_fits w n v dropped unused fits =
    subst (λ v. Fits v w.config.mapping) (sym dropped) (fits_volume_dropped n w.config.mapping w.inventory (λ u. no_first w.config.mapping.groups (MapsVolume n) unused u.0 u.1) fits)
