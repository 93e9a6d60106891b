-- Where nothing moves.
use Rattle.std.proofs.Common.{ℕ, ◌≡◌, ◌<◌, List, [], refl, sym, subst, arith}
use Rattle.std.specs.declared.cmp.Ordering.{Ordering}
use Rattle.std.specs.List.Sorted.{IsStrictlySortedBy}
use Rattle.fab_desk_machine.specs.fab_desk_base.declared.command.Command.{Command}
use Rattle.fab_desk_machine.specs.fab_desk_base.declared.command.Command.TheVariants.{Import, PutHolder, PutVolume, DropHolder, DropVolume, Stage, Withdraw, Approve, DryRun, Activate, Rollback, Show}
use Rattle.fab_desk_machine.specs.fab_desk_trials.Trials.{planned}
use Rattle.fab_inventory.specs.declared.port.Port.{Port}
use Rattle.fab_lemmas.specs.Lists.{IsListOf}
use Rattle.fab_looks_tries.specs.Ports.{AreNewPorts}
use Rattle.fab_reach_base.specs.Records.{ConfigRows}
use Rattle.fab_store_rows.specs.Differences.{IsDifference, StandsOnlyIn}
use Rattle.fab_store_rows.specs.RowOrder.{row_order}
use Rattle.fab_store_rows.specs.declared.config_row.ConfigRow.{ConfigRow}
use Rattle.fab_store_rows.specs.declared.inventory_row.InventoryRow.TheVariants as row
use Rattle.fab_store_world.specs.Inventories.{IsKnownOnlyIn, port_order}
use Rattle.fab_world.specs.Worlds.{WorldRows, records_of}

nowhere : {k : ℕ} → ¬ (k < 0)
nowhere h = omega (arith, h)

-- there is none with P
none_listed : {X : Type 0} (R : X → X → Ordering) (P : X → Type 0) (xs : List X) → xs ≡ [] → ((x : X) → ¬ P x) → IsListOf R P xs
unfolding IsStrictlySortedBy
none_listed R P xs none never = subst (IsListOf R P) (sym none) (record {
  sorted = tt;
  sound = λ x there. absurd (nowhere there.1);
  complete = λ x p. absurd (never x p);
})

-- no port differs where the inventory is the same
pub same_ports : (w v : WorldRows) (ports : List Port) → ports ≡ [] → v.inventory ≡ w.inventory → AreNewPorts w.inventory v.inventory ports
same_ports w v ports none is =
    subst (λ x. AreNewPorts w.inventory x ports) (sym is) (none_listed port_order (λ p. IsKnownOnlyIn w.inventory w.inventory (row.Port p)) ports none (λ p k. k.not_there k.there))

-- and no row where the configuration is
pub same_rows : (c : ConfigRows) (taken added : List ConfigRow) → taken ≡ [] → added ≡ [] → IsDifference c c taken added
same_rows c taken added t a = record {
  takes = none_listed row_order (StandsOnlyIn c c) taken t (λ r s. s.not_there s.there);
  adds = none_listed row_order (StandsOnlyIn c c) added a (λ r s. s.not_there s.there);
}

-- a plan that is new leaves both as they are
pub planned_same : {A : Type 0} (w : WorldRows) (caller : List ℕ) (c : Command A) → records_of (planned w caller c) ≡ records_of w
planned_same w caller (Import f rows) = refl
planned_same w caller (PutHolder kind n t ports) = refl
planned_same w caller (PutVolume n x) = refl
planned_same w caller (DropHolder kind n) = refl
planned_same w caller (DropVolume n) = refl
planned_same w caller (Stage n steps) = refl
planned_same w caller (Withdraw n) = refl
planned_same w caller (Approve n) = refl
planned_same w caller (DryRun n) = refl
planned_same w caller (Activate n) = refl
planned_same w caller (Rollback n) = refl
planned_same w caller (Show q) = refl
