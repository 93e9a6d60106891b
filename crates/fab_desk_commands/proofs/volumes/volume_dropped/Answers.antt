use Rattle.std.proofs.Common.{ℕ, ◌≡◌, List, refl, ap, ◌∙◌, subst}
use Rattle.std.specs.FinMap as map
use Rattle.fab_reach_base.specs.fab_inventory.Inventories.{InventoryRows}
use Rattle.fab_reach_base.specs.fab_mapping.Mappings.{MappingRows}
use Rattle.fab_world.specs.Worlds.{WorldRows}
use Rattle.fab_desk_base.specs.Users.{IsVolumeUser}
use Rattle.fab_desk_base.specs.declared.command.Command.TheVariants.{DropVolume}
use Rattle.fab_desk_commands.specs.Keeping.{IsMappedBy}
use Rattle.fab_desk_commands.proofs.SoundAfter.{sound_after}
use Rattle.fab_desk_commands.proofs.TriedVolumes.{volume_dropped_used, volume_dropped_made, volume_dropped_fits}
use Rattle.fab_desk_commands.proofs.volumes.volume_dropped.Goals as goal

pub returns-in-Err-clause-err : goal.returns-in-Err-clause-err
returns-in-Err-clause-err g c caller =
    let mapped : c.mapping.result.now ≡ c.args.world.now.config.mapping = c.mapping.ensures ∙ ap (λ (w : WorldRows). w.config.mapping) c.world.view_is in
    volume_dropped_used _ c.args.world.now caller c.args.name.now c.in-Err.fault (subst (λ (m : MappingRows). IsMappedBy m c.args.name.now c.in-Err.fault) mapped c.in-Err.ensures.err)

pub returns-in-Ok-drop_volume-clause-ok : goal.returns-in-Ok-drop_volume-clause-ok
returns-in-Ok-drop_volume-clause-ok g c caller =
    let same : c.in-Ok.next ≡ c.args.world.now.inventory = c.in-Ok.ensures ∙ ap (λ (w : WorldRows). w.inventory) c.world.view_is in
    let mapped : c.mapping.result.now ≡ c.args.world.now.config.mapping = c.mapping.ensures ∙ ap (λ (w : WorldRows). w.config.mapping) c.world.view_is in
    volume_dropped_made _ c.args.world.now caller c.args.name.now c.drop_volume.new.self
    (c.in-Ok-drop_volume.ensures.ok ∙ ap (λ (v : InventoryRows). record v { volumes = map.remove v.volumes c.args.name.now }) same)
    (subst (λ (m : MappingRows). (g : List ℕ) → ¬ IsVolumeUser m c.args.name.now g) mapped c.in_default.ensures.ok)

pub returns-in-Ok-drop_volume-clause-sound : goal.returns-in-Ok-drop_volume-clause-sound
returns-in-Ok-drop_volume-clause-sound g c =
    let same : c.in-Ok.next ≡ c.args.world.now.inventory = c.in-Ok.ensures ∙ ap (λ (w : WorldRows). w.inventory) c.world.view_is in
    let mapped : c.mapping.result.now ≡ c.args.world.now.config.mapping = c.mapping.ensures ∙ ap (λ (w : WorldRows). w.config.mapping) c.world.view_is in
    sound_after c.args.world.now (DropVolume c.args.name.now) c.drop_volume.new.self refl c.in-Ok-drop_volume.ensures.sound
    (λ before. volume_dropped_fits c.args.world.now c.args.name.now c.drop_volume.new.self
    (c.in-Ok-drop_volume.ensures.ok ∙ ap (λ (v : InventoryRows). record v { volumes = map.remove v.volumes c.args.name.now }) same)
    (subst (λ (m : MappingRows). (g : List ℕ) → ¬ IsVolumeUser m c.args.name.now g) mapped c.in_default.ensures.ok) before)
