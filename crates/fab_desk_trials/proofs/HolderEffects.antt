-- A command on ports or on a holder leaves an inventory that is one with that before, but for ports and
-- the holder.
use Rattle.std.proofs.Common.{ℕ, List, None, Some, sym, ap, subst}
use Rattle.std.specs.declared.vec.Vec.{Vec}
use Rattle.fab_reach_base.specs.fab_names.declared.fabric.Fabric.{Fabric}
use Rattle.fab_reach_base.specs.fab_inventory.Inventories.{InventoryRows}
use Rattle.fab_reach_base.specs.fab_inventory.declared.holder.HolderKind.{HolderKind}
use Rattle.fab_reach_base.specs.fab_inventory.declared.port.PortRow.{PortRow}
use Rattle.fab_store_world.specs.Inventories.{AreOneButHolder}
use Rattle.fab_store_world.proofs.OneHolder.{one_but_ports, one_but_holder_put, one_but_holder_dropped}
use Rattle.fab_world.specs.Worlds.{WorldRows}
use Rattle.fab_desk_base.specs.Effects.{counted, with_inventory}
use Rattle.fab_desk_base.specs.Trying.{IsMade}
use Rattle.fab_desk_base.specs.declared.command.Command.TheVariants.{Import, PutHolder, DropHolder}

module _ {A : Type 0} (w : WorldRows) (caller : List ℕ) where
  pub import_one : (f : Fabric) (rows : Vec PortRow A) (v : InventoryRows) → IsMade {A = A} w caller (Import f rows) (counted (with_inventory v w)) → AreOneButHolder w.inventory v None
  import_one f rows v made = subst (λ u. AreOneButHolder w.inventory u None) (sym (ap (λ (u : WorldRows). u.inventory) made.makes.2)) (one_but_ports w.inventory made.makes.0)

  pub put_one : (k : HolderKind) (n t : List ℕ) (ports : Vec ℕ A) (v : InventoryRows) → IsMade {A = A} w caller (PutHolder k n t ports) (counted (with_inventory v w)) → AreOneButHolder w.inventory v (Some n)
  put_one k n t ports v made = subst (λ u. AreOneButHolder w.inventory u (Some n)) (sym (ap (λ (u : WorldRows). u.inventory) made.makes.2)) (one_but_holder_put w.inventory made.makes.0 n (record { kind = k; tenant = t }) made.makes.1.holders made.makes.1.volumes)

  pub dropped_one : (k : HolderKind) (n : List ℕ) (v : InventoryRows) → IsMade {A = A} w caller (DropHolder k n) (counted (with_inventory v w)) → AreOneButHolder w.inventory v (Some n)
  dropped_one k n v made = subst (λ u. AreOneButHolder w.inventory u (Some n)) (sym (ap (λ (u : WorldRows). u.inventory) made.makes.2)) (one_but_holder_dropped w.inventory made.makes.0 n made.makes.1.holders made.makes.1.volumes)
