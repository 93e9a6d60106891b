use Rattle.std.proofs.Common.{ℕ, ◌≡◌, List, refl, sym, ap, ◌∙◌, subst}
use Rattle.fab_reach_base.specs.fab_inventory.Inventories.{InventoryRows, CanPutVolume, PutVolumeFails}
use Rattle.fab_world.specs.Worlds.{WorldRows}
use Rattle.fab_desk_base.specs.Trying.{IsTryFault}
use Rattle.fab_desk_base.specs.Users.{IsMovedUser}
use Rattle.fab_desk_base.specs.declared.command.Command.TheVariants.{PutVolume}
use Rattle.fab_desk_commands.proofs.SoundAfter.{sound_after, said_beside}
use Rattle.fab_desk_commands.proofs.TriedVolumes.{VolumePutTried, volume_put_made, volume_put_fits, volume_put_refused, volume_put_used}
use Rattle.fab_desk_commands.proofs.volumes.volume_put.Goals as goal

pub returns-in-Err-clause-err : goal.returns-in-Err-clause-err
returns-in-Err-clause-err g c caller =
    let same : c.in-Ok.next ≡ c.args.world.now.inventory = c.in-Ok.ensures ∙ ap (λ (w : WorldRows). w.inventory) c.world.view_is in
    subst (IsTryFault c.args.world.now caller (PutVolume c.args.name.now c.args.volume.now)) (sym c.refusal.ensures)
    (volume_put_refused _ c.args.world.now caller c.args.name.now c.args.volume.now c.requires.given c.in-Err.fault
    (subst (λ (v : InventoryRows). PutVolumeFails v c.args.name.now c.args.volume.now.array c.args.volume.now.bytes c.in-Err.fault) same c.in-Err.ensures.err))

pub returns-in-None-clause-ok : goal.returns-in-None-clause-ok
returns-in-None-clause-ok g c caller =
    let same : c.in-Ok.next ≡ c.args.world.now.inventory = c.in-Ok.ensures ∙ ap (λ (w : WorldRows). w.inventory) c.world.view_is in
    let tried : VolumePutTried c.args.name.now c.args.volume.now c.in-Ok.next c.put_volume.new.self = record { can = c.in-Ok-put_volume.ensures.can; put = c.in-Ok-put_volume.ensures.ok; sound = c.in-Ok-put_volume.ensures.sound } in
    volume_put_made _ c.args.world.now caller c.args.name.now c.args.volume.now c.put_volume.new.self
    (subst (λ (v : InventoryRows). VolumePutTried c.args.name.now c.args.volume.now v c.put_volume.new.self) same tried)
    (said_beside c.world.view_is c.mapping.ensures (λ v m. (user : List ℕ) → ¬ IsMovedUser v m c.args.name.now c.args.volume.now.array user) c.in-None.ensures)

pub returns-in-None-clause-sound : goal.returns-in-None-clause-sound
returns-in-None-clause-sound g c =
    let same : c.in-Ok.next ≡ c.args.world.now.inventory = c.in-Ok.ensures ∙ ap (λ (w : WorldRows). w.inventory) c.world.view_is in
    let tried : VolumePutTried c.args.name.now c.args.volume.now c.in-Ok.next c.put_volume.new.self = record { can = c.in-Ok-put_volume.ensures.can; put = c.in-Ok-put_volume.ensures.ok; sound = c.in-Ok-put_volume.ensures.sound } in
    sound_after c.args.world.now (PutVolume c.args.name.now c.args.volume.now) c.put_volume.new.self refl c.in-Ok-put_volume.ensures.sound
    (λ before. volume_put_fits c.args.world.now c.args.name.now c.args.volume.now c.put_volume.new.self
    (subst (λ (v : InventoryRows). VolumePutTried c.args.name.now c.args.volume.now v c.put_volume.new.self) same tried)
    (said_beside c.world.view_is c.mapping.ensures (λ v m. (user : List ℕ) → ¬ IsMovedUser v m c.args.name.now c.args.volume.now.array user) c.in-None.ensures) before)

pub returns-in-Some-clause-err : goal.returns-in-Some-clause-err
returns-in-Some-clause-err g c caller =
    let same : c.in-Ok.next ≡ c.args.world.now.inventory = c.in-Ok.ensures ∙ ap (λ (w : WorldRows). w.inventory) c.world.view_is in
    volume_put_used _ c.args.world.now caller c.args.name.now c.args.volume.now (subst (λ (v : InventoryRows). CanPutVolume v c.args.name.now c.args.volume.now.array c.args.volume.now.bytes) same c.in-Ok-put_volume.ensures.can) c.in-Some.by
    (said_beside c.world.view_is c.mapping.ensures (λ v m. IsMovedUser v m c.args.name.now c.args.volume.now.array c.in-Some.by) c.in-Some.ensures)
