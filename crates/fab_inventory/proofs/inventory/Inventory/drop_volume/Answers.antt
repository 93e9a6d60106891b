use Rattle.std.proofs.Common.{ℕ, List, Option, is_some, not, sym, ap, ◌∙◌, subst, refl}
use Rattle.std.specs.FinMap as map
use Rattle.fab_inventory.specs.declared.holder.Volume.{Volume}
use Rattle.fab_inventory.specs.declared.fault.InventoryFault.TheVariants.{Unknown}
use Rattle.fab_inventory.specs.Inventories.{InventoryRows, DropVolumeFails}
use Rattle.fab_inventory.proofs.Changes.{volume_drop_made, volume_look_ups}
use Rattle.fab_inventory.proofs.inventory.Inventory.drop_volume.Goals as goal

pub returns-then-is_none-clause-err : goal.returns-then-is_none-clause-err
returns-then-is_none-clause-err g c =
    subst (λ (v : InventoryRows). DropVolumeFails v c.args.name.now (Unknown c.args.name.now)) c.self.view_is
    (refl, ap (λ (f : List ℕ → Option Volume). is_some (f c.args.name.now)) (sym (volume_look_ups c.self.inside.ports c.self.inside.holders c.self.inside.volumes)) ∙ ap is_some (sym c.remove.ensures.value) ∙ c.is_none.ensures ∙ ap not c.if-is_none.true)

pub returns-clause-known : goal.returns-clause-known
returns-clause-known g c =
    ap (λ (v : InventoryRows). map.contains_key v.volumes c.args.name.now) (sym c.self.view_is) ∙ ap (λ (f : List ℕ → Option Volume). is_some (f c.args.name.now)) (sym (volume_look_ups c.self.inside.ports c.self.inside.holders c.self.inside.volumes)) ∙ ap is_some (sym c.remove.ensures.value) ∙ c.is_none.ensures ∙ ap not c.if-is_none.false

pub returns-clause-ok : goal.returns-clause-ok
returns-clause-ok g c = (volume_drop_made c.self.inside.ports c.self.inside.holders c.self.inside.volumes c.args.name.now c.remove.new.self c.self.invariant c.remove.ensures.updates.0).0 ∙ ap (λ (v : InventoryRows). record v { volumes = map.remove v.volumes c.args.name.now }) c.self.view_is

pub invariant_of-self-2 : goal.invariant_of-self-2
invariant_of-self-2 g c = (volume_drop_made c.self.inside.ports c.self.inside.holders c.self.inside.volumes c.args.name.now c.remove.new.self c.self.invariant c.remove.ensures.updates.0).1

pub returns-clause-sound : goal.returns-clause-sound
returns-clause-sound g c = (volume_drop_made c.self.inside.ports c.self.inside.holders c.self.inside.volumes c.args.name.now c.remove.new.self c.self.invariant c.remove.ensures.updates.0).1
