-- A command on a volume leaves an inventory that is one with that before, but for the volume.
use Rattle.std.proofs.Common.{List, ℕ, sym, ap, subst}
use Rattle.fab_reach_base.specs.fab_inventory.declared.holder.Volume.{Volume}
use Rattle.fab_reach_base.specs.fab_inventory.Inventories.{InventoryRows}
use Rattle.fab_store_world.specs.Inventories.{AreOneButVolume}
use Rattle.fab_store_world.proofs.OneVolume.{one_but_put, one_but_dropped}
use Rattle.fab_world.specs.Worlds.{WorldRows}
use Rattle.fab_desk_base.specs.Effects.{counted, with_inventory}
use Rattle.fab_desk_base.specs.Trying.{IsMade}
use Rattle.fab_desk_base.specs.declared.command.Command.TheVariants.{PutVolume, DropVolume}

module _ {A : Type 0} (w : WorldRows) (caller n : List ℕ) where
  pub put_volume : (x : Volume) (v : InventoryRows) → IsMade {A = A} w caller (PutVolume n x) (counted (with_inventory v w)) → AreOneButVolume w.inventory v n
  put_volume x v made = subst (λ u. AreOneButVolume w.inventory u n) (sym (ap (λ (u : WorldRows). u.inventory) made.makes)) (one_but_put w.inventory n x)

  pub volume_dropped : (v : InventoryRows) → IsMade {A = A} w caller (DropVolume n) (counted (with_inventory v w)) → AreOneButVolume w.inventory v n
  volume_dropped v made = subst (λ u. AreOneButVolume w.inventory u n) (sym (ap (λ (u : WorldRows). u.inventory) made.makes)) (one_but_dropped w.inventory n)
