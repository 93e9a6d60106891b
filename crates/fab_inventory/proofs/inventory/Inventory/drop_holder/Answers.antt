use Rattle.std.proofs.Common.{ℕ, List, Option, is_some, sym, ap, ◌∙◌, subst, refl}
use Rattle.std.specs.FinMap as map
use Rattle.fab_inventory.specs.declared.holder.Holder.{Holder}
use Rattle.fab_inventory.specs.declared.fault.InventoryFault.TheVariants.{Unknown, InUse}
use Rattle.fab_inventory.specs.Holders.{HasNoVolume, IsLeastVolume}
use Rattle.fab_inventory.specs.Inventories.{InventoryRows, IsSound, IsHolderDropped, DropHolderFails}
use Rattle.fab_inventory.proofs.Changes.{seen, drop_made, holder_look_ups, volume_look_ups}
use Rattle.fab_inventory.proofs.inventory.Inventory.drop_holder.Goals as goal

pub returns-then-not-contains_key-clause-err : goal.returns-then-not-contains_key-clause-err
returns-then-not-contains_key-clause-err g c =
    subst (λ (v : InventoryRows). DropHolderFails v c.args.name.now (Unknown c.args.name.now)) c.self.view_is
    (refl, ap (λ (f : List ℕ → Option Holder). is_some (f c.args.name.now)) (sym (holder_look_ups c.self.inside.ports c.self.inside.holders c.self.inside.volumes)) ∙ sym c.contains_key.ensures ∙ c.if-not-contains_key.true)

pub returns-in-Some-clause-err : goal.returns-in-Some-clause-err
returns-in-Some-clause-err g c =
    subst (λ (v : InventoryRows). DropHolderFails v c.args.name.now (InUse c.args.name.now c.in-Some.volume.now)) c.self.view_is (
      refl,
      ap (λ (f : List ℕ → Option Holder). is_some (f c.args.name.now)) (sym (holder_look_ups c.self.inside.ports c.self.inside.holders c.self.inside.volumes)) ∙ sym c.contains_key.ensures ∙ c.if-not-contains_key.false,
      subst (λ f. IsLeastVolume f c.args.name.now c.in-Some.volume.now) (volume_look_ups c.self.inside.ports c.self.inside.holders c.self.inside.volumes) c.in-Some.ensures,
    )

pub returns-clause-known : goal.returns-clause-known
returns-clause-known g c =
    ap (λ (v : InventoryRows). map.contains_key v.holders c.args.name.now) (sym c.self.view_is) ∙ ap (λ (f : List ℕ → Option Holder). is_some (f c.args.name.now)) (sym (holder_look_ups c.self.inside.ports c.self.inside.holders c.self.inside.volumes)) ∙ sym c.contains_key.ensures ∙ c.if-not-contains_key.false

pub returns-clause-unused : goal.returns-clause-unused
returns-clause-unused g c =
    subst (λ (v : InventoryRows). HasNoVolume (map.get v.volumes) c.args.name.now) c.self.view_is (subst (λ f. HasNoVolume f c.args.name.now) (volume_look_ups c.self.inside.ports c.self.inside.holders c.self.inside.volumes) c.in_default.ensures)

pub returns-clause-ok : goal.returns-clause-ok
returns-clause-ok g c =
    subst (λ (v : InventoryRows). IsHolderDropped c.args.name.now v (seen c.hand_over_all.new.ports c.remove.new.self c.self.inside.volumes)) c.self.view_is
    (drop_made c.self.inside.ports c.self.inside.holders c.self.inside.volumes c.args.name.now c.hand_over_all.new.ports c.remove.new.self c.self.invariant c.in_default.ensures c.remove.ensures.updates.0 c.hand_over_all.ensures.ports c.hand_over_all.ensures.few).0

pub invariant_of-self : goal.invariant_of-self
invariant_of-self g c = (drop_made c.self.inside.ports c.self.inside.holders c.self.inside.volumes c.args.name.now c.hand_over_all.new.ports c.remove.new.self c.self.invariant c.in_default.ensures c.remove.ensures.updates.0 c.hand_over_all.ensures.ports c.hand_over_all.ensures.few).1

pub returns-clause-sound : goal.returns-clause-sound
returns-clause-sound g c = (drop_made c.self.inside.ports c.self.inside.holders c.self.inside.volumes c.args.name.now c.hand_over_all.new.ports c.remove.new.self c.self.invariant c.in_default.ensures c.remove.ensures.updates.0 c.hand_over_all.ensures.ports c.hand_over_all.ensures.few).1

pub returns-then-not-contains_key-clause-sound : goal.returns-then-not-contains_key-clause-sound
returns-then-not-contains_key-clause-sound g c = subst IsSound c.self.view_is c.self.invariant

pub returns-in-Some-clause-sound : goal.returns-in-Some-clause-sound
returns-in-Some-clause-sound g c = subst IsSound c.self.view_is c.self.invariant
