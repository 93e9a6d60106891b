use Rattle.std.proofs.Common.{◌≡◌, ◌<◌, ◌≤◌, ℕ, List, Option, Some, is_some, sym, ap, ◌∙◌, subst, arith, refl}
use mathlib.Core.Bool.{true≢false}
use Rattle.std.specs.FinMap as map
use Rattle.fab_names.proofs.OrderLaws.{name_total}
use Rattle.fab_inventory.specs.declared.holder.Volume.{Volume}
use Rattle.fab_inventory.specs.declared.holder.HolderKind.{HolderKind}
use Rattle.fab_inventory.specs.declared.holder.HolderKind.TheVariants.{Array}
use Rattle.fab_inventory.specs.declared.fault.InventoryFault.TheVariants.{Limit, Unknown}
use Rattle.fab_inventory.specs.declared.fault.InventoryLimit.TheVariants.{Volumes}
use Rattle.fab_inventory.specs.Inventories.{InventoryRows, IsSound, CanPutVolume, PutVolumeFails}
use Rattle.fab_inventory.proofs.Changes.{seen, seen_same, on_err, volume_put_made, kind_seen, volume_look_ups}
use Rattle.fab_lemmas.proofs.SeenMaps.{len_entries}
use Rattle.fab_inventory.proofs.inventory.Inventory.put_volume.Goals as goal
use Rattle.fab_inventory.proofs.inventory.Inventory.put_volume.Given.{Over}
use Rattle.fab_inventory.proofs.inventory.Inventory.put_volume.Goals.{In_ok-insert, else-len-ge-MOST_VOLUMES-via-then-len-ge-MOST_VOLUMES+else-not-contains_key, else-len-ge-MOST_VOLUMES-via-else-len-ge-MOST_VOLUMES}

pub returns-then-not-is_array-clause-err : goal.returns-then-not-is_array-clause-err
returns-then-not-is_array-clause-err g c =
    let P : Option HolderKind → Type 0 = λ o. ¬ (o ≡ Some Array) in
    subst (λ (v : InventoryRows). PutVolumeFails v c.args.name c.args.array c.args.bytes (Unknown c.args.array)) c.self.view_is
    ((omega arith, omega arith), refl, kind_seen c.self.inside.ports c.self.inside.holders c.self.inside.volumes P c.args.array (subst P c.kind_of-known.ensures (λ is. true≢false (sym (c.is_array.ensures.1 is) ∙ c.if-not-is_array.true))))

pub returns-then-not-contains_key-clause-err : goal.returns-then-not-contains_key-clause-err
returns-then-not-contains_key-clause-err g c =
    let P : Option HolderKind → Type 0 = λ o. o ≡ Some Array in
    subst (λ (v : InventoryRows). PutVolumeFails v c.args.name c.args.array c.args.bytes (Limit Volumes)) c.self.view_is (
      (omega arith, omega arith),
      kind_seen c.self.inside.ports c.self.inside.holders c.self.inside.volumes P c.args.array (subst P c.kind_of-known.ensures (c.is_array.ensures.0 c.if-not-is_array.false)),
      ap (λ (f : List ℕ → Option Volume). is_some (f c.args.name)) (sym (volume_look_ups c.self.inside.ports c.self.inside.holders c.self.inside.volumes)) ∙ sym c.contains_key.ensures ∙ c.if-not-contains_key.true,
      subst (λ n. 4096 ≤ n) (sym (len_entries name_total c.self.inside.volumes.entries c.len.ensures.ordered)) (omega (arith, c.len.ensures.len)),
    )

can_put : (g : Over) (c : In_ok-insert g) → CanPutVolume (seen c.self.inside.ports c.self.inside.holders c.self.inside.volumes) c.args.name c.args.array c.args.bytes
can_put g c =
    let P : Option HolderKind → Type 0 = λ o. o ≡ Some Array in
    record {
      capacity = (omega arith, omega arith);
      on_array = kind_seen c.self.inside.ports c.self.inside.holders c.self.inside.volumes P c.args.array (subst P c.kind_of-known.ensures (c.is_array.ensures.0 c.if-not-is_array.false));
      room = λ fresh. elim c.else-len-ge-MOST_VOLUMES.branch [
        | else-len-ge-MOST_VOLUMES-via-then-len-ge-MOST_VOLUMES+else-not-contains_key w ↦ absurd (true≢false (sym w.if-not-contains_key.false ∙ w.contains_key.ensures ∙ ap (λ (f : List ℕ → Option Volume). is_some (f c.args.name)) (volume_look_ups c.self.inside.ports c.self.inside.holders c.self.inside.volumes) ∙ fresh))
        | else-len-ge-MOST_VOLUMES-via-else-len-ge-MOST_VOLUMES w ↦ subst (λ n. n < 4096) (sym (len_entries name_total c.self.inside.volumes.entries c.len.ensures.ordered)) (omega (arith, c.len.ensures.len))
      ];
    }

pub returns-clause-can : goal.returns-clause-can
returns-clause-can g c =
    subst (λ (v : InventoryRows). CanPutVolume v c.args.name c.args.array c.args.bytes) c.self.view_is (can_put g c)

pub returns-clause-ok : goal.returns-clause-ok
returns-clause-ok g c =
    (volume_put_made c.self.inside.ports c.self.inside.holders c.self.inside.volumes c.args.name (record { array = c.args.array; tenant = c.args.tenant; bytes = c.args.bytes }) c.insert.new.self c.self.invariant (can_put g c) c.in_ok-insert.ensures.updates.0).0
    ∙ ap (λ (v : InventoryRows). record v { volumes = map.insert v.volumes c.args.name (record { array = c.args.array; tenant = c.args.tenant; bytes = c.args.bytes }) }) c.self.view_is

pub invariant_of-self-2 : goal.invariant_of-self-2
invariant_of-self-2 g c =
    (volume_put_made c.self.inside.ports c.self.inside.holders c.self.inside.volumes c.args.name (record { array = c.args.array; tenant = c.args.tenant; bytes = c.args.bytes }) c.insert.new.self c.self.invariant (can_put g c) c.in_ok-insert.ensures.updates.0).1

pub returns-clause-sound : goal.returns-clause-sound
returns-clause-sound g c =
    (volume_put_made c.self.inside.ports c.self.inside.holders c.self.inside.volumes c.args.name (record { array = c.args.array; tenant = c.args.tenant; bytes = c.args.bytes }) c.insert.new.self c.self.invariant (can_put g c) c.in_ok-insert.ensures.updates.0).1

pub returns-then-bytes-eq0-clause-sound : goal.returns-then-bytes-eq0-clause-sound
returns-then-bytes-eq0-clause-sound g c = subst IsSound c.self.view_is c.self.invariant

pub returns-then-not-is_array-clause-sound : goal.returns-then-not-is_array-clause-sound
returns-then-not-is_array-clause-sound g c = subst IsSound c.self.view_is c.self.invariant

pub returns-then-not-contains_key-clause-sound : goal.returns-then-not-contains_key-clause-sound
returns-then-not-contains_key-clause-sound g c = subst IsSound c.self.view_is c.self.invariant

pub invariant_of-self : goal.invariant_of-self
invariant_of-self g c =
    subst IsSound (sym (seen_same c.self.inside.ports c.self.inside.holders c.self.inside.volumes c.self.inside.ports c.self.inside.holders c.insert.new.self refl refl c.in_err-insert.ensures.err)) c.self.invariant

pub returns-in_err-insert-clause-sound : goal.returns-in_err-insert-clause-sound
returns-in_err-insert-clause-sound g c =
    subst IsSound (sym (seen_same c.self.inside.ports c.self.inside.holders c.self.inside.volumes c.self.inside.ports c.self.inside.holders c.insert.new.self refl refl c.in_err-insert.ensures.err)) c.self.invariant

pub returns-in_err-insert-clause-unchanged : goal.returns-in_err-insert-clause-unchanged
returns-in_err-insert-clause-unchanged g c =
    on_err c.from_residual.result (seen_same c.self.inside.ports c.self.inside.holders c.self.inside.volumes c.self.inside.ports c.self.inside.holders c.insert.new.self refl refl c.in_err-insert.ensures.err ∙ c.self.view_is)
