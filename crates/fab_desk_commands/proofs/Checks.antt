-- Which checks of a command on the inventory pass, up to a place in their order.
use Rattle.std.proofs.Common.{ℕ, ◌<◌, ◌≤◌, List, arith}
use Rattle.std.specs.declared.vec.Vec.{Vec}
use Rattle.std.specs.FinMap as map
use Rattle.fab_reach_base.specs.fab_lemmas.Room.{IsFull}
use Rattle.fab_reach_base.specs.fab_names.declared.fabric.Fabric.{Fabric}
use Rattle.fab_reach_base.specs.fab_inventory.Holders.{IsLeast, IsUnknownIn, IsHeldIn, IsLeastVolume}
use Rattle.fab_reach_base.specs.fab_inventory.Imports.{IsClash}
use Rattle.fab_reach_base.specs.fab_inventory.Inventories.{HasOtherKind, IsArray}
use Rattle.fab_reach_base.specs.fab_inventory.Limits.{most_holders, most_volumes}
use Rattle.fab_reach_base.specs.fab_inventory.declared.holder.HolderKind.{HolderKind}
use Rattle.fab_reach_base.specs.fab_inventory.declared.holder.HolderKind.TheVariants as kind
use Rattle.fab_reach_base.specs.fab_inventory.declared.holder.Volume.{Volume}
use Rattle.fab_reach_base.specs.fab_inventory.declared.port.PortRow.{PortRow}
use Rattle.fab_world.specs.Worlds.{WorldRows}
use Rattle.fab_desk_base.specs.Refusals.{Check, own_name, records, others, free_ports, no_user, no_volume, room, few_paths, few_changes, place_of, Fails, ListsManyPorts}
use Rattle.fab_desk_base.specs.Users.{IsHolderUser, IsVolumeUser, IsMovedUser}
use Rattle.fab_desk_base.specs.declared.command.Command.{Command}
use Rattle.fab_desk_base.specs.declared.command.Command.TheVariants.{Import, PutHolder, PutVolume, DropHolder, DropVolume}
use Rattle.fab_desk_base.specs.declared.fault.DeskFault.{DeskFault}
use Rattle.fab_desk_commands.specs.Keeping.{IsKeptTarget}

module _ (A : Type 0) (w : WorldRows) (caller : List ℕ) (most : ℕ) (few : most ≤ 12) where
  -- each check of the command below the place passes
  abbrev pub Passes : Command A → Type 0
  Passes c = (k : Check) (q : DeskFault) → place_of k < most → ¬ Fails w caller c k q

  pub import_passes : (f : Fabric) (rows : Vec PortRow A) → (2 < most → (q : ℕ) → ¬ IsClash rows.items q) → (11 < most → ¬ ListsManyPorts w (Import f rows)) → Passes (Import f rows)
  import_passes f rows agree fit records q lt h = agree lt h.0 h.1.1
  import_passes f rows agree fit room q lt h = fit lt h.1
  import_passes f rows agree fit few_paths q lt h = omega (arith, lt, few)
  import_passes f rows agree fit few_changes q lt h = omega (arith, lt, few)
  import_passes f rows agree fit _ q lt h = h

  pub holder_put_passes : (k : HolderKind) (n t : List ℕ) (ports : Vec ℕ A) → (1 < most → ¬ HasOtherKind w.inventory.holders n k) → (3 < most → (q : ℕ) → ¬ IsLeast (IsUnknownIn (map.get w.inventory.ports) ports.items) q)
      → (4 < most → (q : ℕ) → ¬ IsLeast (IsHeldIn (map.get w.inventory.ports) n ports.items) q) → (5 < most → (e : ℕ × List ℕ) → ¬ IsKeptTarget w.inventory w.config.mapping k n ports.items e) → (11 < most → ¬ IsFull w.inventory.holders n most_holders) → Passes (PutHolder k n t ports)
  holder_put_passes k n t ports own known free stay fit own_name q lt h = own lt h.1
  holder_put_passes k n t ports own known free stay fit others q lt h = known lt h.0 h.1.1
  holder_put_passes k n t ports own known free stay fit free_ports q lt h = free lt h.0 h.2.1.0
  holder_put_passes kind.Host n t ports own known free stay fit no_user q lt h = h
  holder_put_passes kind.Array n t ports own known free stay fit no_user q lt h = stay lt (h.0, h.1) h.2.1
  holder_put_passes k n t ports own known free stay fit room q lt h = fit lt h.1
  holder_put_passes k n t ports own known free stay fit few_paths q lt h = omega (arith, lt, few)
  holder_put_passes k n t ports own known free stay fit few_changes q lt h = omega (arith, lt, few)
  holder_put_passes k n t ports own known free stay fit _ q lt h = h

  pub volume_put_passes : (n : List ℕ) (x : Volume) → (3 < most → IsArray w.inventory.holders x.array) → (5 < most → (g : List ℕ) → ¬ IsMovedUser w.inventory w.config.mapping n x.array g) → (11 < most → ¬ IsFull w.inventory.volumes n most_volumes) → Passes (PutVolume n x)
  volume_put_passes n x on_array stay fit others q lt h = h.1 (on_array lt)
  volume_put_passes n x on_array stay fit no_user q lt h = stay lt h.0 h.1.1
  volume_put_passes n x on_array stay fit room q lt h = fit lt h.1
  volume_put_passes n x on_array stay fit few_paths q lt h = omega (arith, lt, few)
  volume_put_passes n x on_array stay fit few_changes q lt h = omega (arith, lt, few)
  volume_put_passes n x on_array stay fit _ q lt h = h

  pub holder_dropped_passes : (k : HolderKind) (n : List ℕ) → (5 < most → (g : List ℕ) → ¬ IsHolderUser w.config.mapping k n g) → (6 < most → (x : List ℕ) → ¬ IsLeastVolume (map.get w.inventory.volumes) n x) → Passes (DropHolder k n)
  holder_dropped_passes k n unused bare no_user q lt h = unused lt h.0 h.1.1
  holder_dropped_passes k n unused bare no_volume q lt h = bare lt h.0 h.1.1
  holder_dropped_passes k n unused bare few_paths q lt h = omega (arith, lt, few)
  holder_dropped_passes k n unused bare few_changes q lt h = omega (arith, lt, few)
  holder_dropped_passes k n unused bare _ q lt h = h

  pub volume_dropped_passes : (n : List ℕ) → (5 < most → (g : List ℕ) → ¬ IsVolumeUser w.config.mapping n g) → Passes (DropVolume n)
  volume_dropped_passes n unused no_user q lt h = unused lt h.0 h.1.1
  volume_dropped_passes n unused few_paths q lt h = omega (arith, lt, few)
  volume_dropped_passes n unused few_changes q lt h = omega (arith, lt, few)
  volume_dropped_passes n unused _ q lt h = h
