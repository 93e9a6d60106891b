use Rattle.std.proofs.Common.{ℕ, ◌≡◌, List, Option, refl, sym, ap, ◌∙◌, subst}
use Rattle.fab_reach_base.specs.fab_inventory.Inventories.{InventoryRows, CanPutHolder, PutHolderFails}
use Rattle.fab_reach_base.specs.fab_inventory.declared.holder.HolderKind.{HolderKind}
use Rattle.fab_reach_base.specs.fab_mapping.Mappings.{MappingRows}
use Rattle.fab_world.specs.Worlds.{WorldRows}
use Rattle.fab_desk_base.specs.Trying.{IsTryFault}
use Rattle.fab_desk_base.specs.declared.command.Command.TheVariants.{PutHolder}
use Rattle.fab_desk_commands.proofs.SoundAfter.{sound_after, said_of, said_beside}
use Rattle.fab_desk_commands.proofs.TriedHolders.{FindsKept, HolderPutTried, holder_put_made, holder_put_fits, holder_put_refused, holder_put_kept}
use Rattle.fab_desk_commands.proofs.holders.holder_put.Goals as goal

-- what is found beside the parts of the world is found beside the world
found_beside : (w inside : WorldRows) (m : MappingRows) (k : HolderKind) (n xs ys : List ℕ) (o : Option (ℕ × List ℕ)) → inside ≡ w → m ≡ inside.config.mapping → xs ≡ ys → FindsKept k n xs inside.inventory m o → FindsKept k n ys w.inventory w.config.mapping o
found_beside w inside m k n xs ys o same mapped listed h = subst (λ zs. FindsKept k n zs w.inventory w.config.mapping o) listed (said_beside same mapped (λ v u. FindsKept k n xs v u o) h)

pub returns-in-Err-clause-err : goal.returns-in-Err-clause-err
returns-in-Err-clause-err g c caller =
    let same : c.in-Ok.next ≡ c.args.world.now.inventory = c.in-Ok.ensures ∙ ap (λ (w : WorldRows). w.inventory) c.world.view_is in
    subst (IsTryFault c.args.world.now caller (PutHolder c.args.kind c.args.name.now c.args.tenant.now c.args.ports.now)) (sym c.refusal.ensures)
    (holder_put_refused c.args.world.now caller c.args.kind c.args.name.now c.args.tenant.now c.args.ports.now c.requires.sound.inventory c.requires.given c.in-Err.fault
    (said_of (λ (listed : List ℕ) (v : InventoryRows). PutHolderFails v c.args.name.now c.args.kind listed c.in-Err.fault) c.as_slice.ensures.value same c.in-Err.ensures.err))

pub returns-in-None-clause-ok : goal.returns-in-None-clause-ok
returns-in-None-clause-ok g c caller =
    let same : c.in-Ok.next ≡ c.args.world.now.inventory = c.in-Ok.ensures ∙ ap (λ (w : WorldRows). w.inventory) c.world.view_is in
    let tried : HolderPutTried c.args.kind c.args.name.now c.args.tenant.now c.as_slice.result.now c.in-Ok.next c.put_holder.new.self = record { can = c.in-Ok-put_holder.ensures.can; put = c.in-Ok-put_holder.ensures.ok; sound = c.in-Ok-put_holder.ensures.sound } in
    holder_put_made c.args.world.now caller c.args.kind c.args.name.now c.args.tenant.now c.args.ports.now c.put_holder.new.self
    (said_of (λ (listed : List ℕ) (v : InventoryRows). HolderPutTried c.args.kind c.args.name.now c.args.tenant.now listed v c.put_holder.new.self) c.as_slice.ensures.value same tried)
    (subst (FindsKept c.args.kind c.args.name.now c.args.ports.now.items c.args.world.now.inventory c.args.world.now.config.mapping) c.in-None.is
    (found_beside c.args.world.now _ c.mapping.result.now c.args.kind c.args.name.now c.as_slice-2.result.now c.args.ports.now.items c.in-Ok-kept_target.kept c.world.view_is c.mapping.ensures c.as_slice-2.ensures.value c.in-Ok-kept_target.ensures))

pub returns-in-None-clause-sound : goal.returns-in-None-clause-sound
returns-in-None-clause-sound g c =
    let same : c.in-Ok.next ≡ c.args.world.now.inventory = c.in-Ok.ensures ∙ ap (λ (w : WorldRows). w.inventory) c.world.view_is in
    let tried : HolderPutTried c.args.kind c.args.name.now c.args.tenant.now c.as_slice.result.now c.in-Ok.next c.put_holder.new.self = record { can = c.in-Ok-put_holder.ensures.can; put = c.in-Ok-put_holder.ensures.ok; sound = c.in-Ok-put_holder.ensures.sound } in
    sound_after c.args.world.now (PutHolder c.args.kind c.args.name.now c.args.tenant.now c.args.ports.now) c.put_holder.new.self refl c.in-Ok-put_holder.ensures.sound
    (λ before. holder_put_fits c.args.world.now c.args.kind c.args.name.now c.args.tenant.now c.args.ports.now.items c.put_holder.new.self
    (said_of (λ (listed : List ℕ) (v : InventoryRows). HolderPutTried c.args.kind c.args.name.now c.args.tenant.now listed v c.put_holder.new.self) c.as_slice.ensures.value same tried)
    (subst (FindsKept c.args.kind c.args.name.now c.args.ports.now.items c.args.world.now.inventory c.args.world.now.config.mapping) c.in-None.is
    (found_beside c.args.world.now _ c.mapping.result.now c.args.kind c.args.name.now c.as_slice-2.result.now c.args.ports.now.items c.in-Ok-kept_target.kept c.world.view_is c.mapping.ensures c.as_slice-2.ensures.value c.in-Ok-kept_target.ensures)) before)

pub returns-in-Some-clause-err : goal.returns-in-Some-clause-err
returns-in-Some-clause-err g c caller =
    let same : c.in-Ok.next ≡ c.args.world.now.inventory = c.in-Ok.ensures ∙ ap (λ (w : WorldRows). w.inventory) c.world.view_is in
    holder_put_kept c.args.world.now caller c.args.kind c.args.name.now c.args.tenant.now c.args.ports.now
    (said_of (λ (listed : List ℕ) (v : InventoryRows). CanPutHolder v c.args.name.now c.args.kind listed) c.as_slice.ensures.value same c.in-Ok-put_holder.ensures.can) c.in-Some.target
    (subst (FindsKept c.args.kind c.args.name.now c.args.ports.now.items c.args.world.now.inventory c.args.world.now.config.mapping) c.in-Some.is
    (found_beside c.args.world.now _ c.mapping.result.now c.args.kind c.args.name.now c.as_slice-2.result.now c.args.ports.now.items c.in-Ok-kept_target.kept c.world.view_is c.mapping.ensures c.as_slice-2.ensures.value c.in-Ok-kept_target.ensures))
