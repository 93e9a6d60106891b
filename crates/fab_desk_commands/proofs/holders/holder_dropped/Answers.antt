use Rattle.std.proofs.Common.{ℕ, ◌≡◌, List, refl, sym, ap, ◌∙◌, subst}
use Rattle.fab_reach_base.specs.fab_inventory.Inventories.{InventoryRows, DropHolderFails}
use Rattle.fab_reach_base.specs.fab_mapping.Mappings.{MappingRows}
use Rattle.fab_world.specs.Worlds.{WorldRows}
use Rattle.fab_desk_base.specs.Trying.{IsTryFault}
use Rattle.fab_desk_base.specs.Users.{IsHolderUser}
use Rattle.fab_desk_base.specs.declared.command.Command.TheVariants.{DropHolder}
use Rattle.fab_desk_commands.specs.Keeping.{IsUsedBy}
use Rattle.fab_desk_commands.proofs.SoundAfter.{sound_after}
use Rattle.fab_desk_commands.proofs.TriedHolders.{HolderDropTried, holder_dropped_used, holder_dropped_made, holder_dropped_fits, holder_dropped_refused}
use Rattle.fab_desk_commands.proofs.holders.holder_dropped.Goals as goal

pub returns-in-Err-clause-err : goal.returns-in-Err-clause-err
returns-in-Err-clause-err g c caller =
    let mapped : c.mapping.result.now ≡ c.args.world.now.config.mapping = c.mapping.ensures ∙ ap (λ (w : WorldRows). w.config.mapping) c.world.view_is in
    holder_dropped_used _ c.args.world.now caller c.args.kind c.args.name.now c.in-Err.fault (subst (λ (m : MappingRows). IsUsedBy m c.args.kind c.args.name.now c.in-Err.fault) mapped c.in-Err.ensures.err)

pub returns-in-Ok-drop_holder-clause-ok : goal.returns-in-Ok-drop_holder-clause-ok
returns-in-Ok-drop_holder-clause-ok g c caller =
    let same : c.in-Ok.next ≡ c.args.world.now.inventory = c.in-Ok.ensures ∙ ap (λ (w : WorldRows). w.inventory) c.world.view_is in
    let mapped : c.mapping.result.now ≡ c.args.world.now.config.mapping = c.mapping.ensures ∙ ap (λ (w : WorldRows). w.config.mapping) c.world.view_is in
    let tried : HolderDropTried c.args.name.now c.in-Ok.next c.drop_holder.new.self = record { bare = c.in-Ok-drop_holder.ensures.unused; dropped = c.in-Ok-drop_holder.ensures.ok; sound = c.in-Ok-drop_holder.ensures.sound } in
    holder_dropped_made _ c.args.world.now caller c.args.kind c.args.name.now c.drop_holder.new.self
    (subst (λ (v : InventoryRows). HolderDropTried c.args.name.now v c.drop_holder.new.self) same tried)
    (subst (λ (m : MappingRows). (g : List ℕ) → ¬ IsHolderUser m c.args.kind c.args.name.now g) mapped c.in_default.ensures.ok)

pub returns-in-Ok-drop_holder-clause-sound : goal.returns-in-Ok-drop_holder-clause-sound
returns-in-Ok-drop_holder-clause-sound g c =
    let same : c.in-Ok.next ≡ c.args.world.now.inventory = c.in-Ok.ensures ∙ ap (λ (w : WorldRows). w.inventory) c.world.view_is in
    let mapped : c.mapping.result.now ≡ c.args.world.now.config.mapping = c.mapping.ensures ∙ ap (λ (w : WorldRows). w.config.mapping) c.world.view_is in
    let tried : HolderDropTried c.args.name.now c.in-Ok.next c.drop_holder.new.self = record { bare = c.in-Ok-drop_holder.ensures.unused; dropped = c.in-Ok-drop_holder.ensures.ok; sound = c.in-Ok-drop_holder.ensures.sound } in
    sound_after c.args.world.now (DropHolder c.args.kind c.args.name.now) c.drop_holder.new.self refl c.in-Ok-drop_holder.ensures.sound
    (λ before. holder_dropped_fits c.args.world.now c.args.kind c.args.name.now c.drop_holder.new.self c.requires.there
    (subst (λ (v : InventoryRows). HolderDropTried c.args.name.now v c.drop_holder.new.self) same tried)
    (subst (λ (m : MappingRows). (g : List ℕ) → ¬ IsHolderUser m c.args.kind c.args.name.now g) mapped c.in_default.ensures.ok) before)

pub returns-in-Err-drop_holder-clause-err : goal.returns-in-Err-drop_holder-clause-err
returns-in-Err-drop_holder-clause-err g c caller =
    let same : c.in-Ok.next ≡ c.args.world.now.inventory = c.in-Ok.ensures ∙ ap (λ (w : WorldRows). w.inventory) c.world.view_is in
    let mapped : c.mapping.result.now ≡ c.args.world.now.config.mapping = c.mapping.ensures ∙ ap (λ (w : WorldRows). w.config.mapping) c.world.view_is in
    subst (IsTryFault c.args.world.now caller (DropHolder c.args.kind c.args.name.now)) (sym c.refusal.ensures)
    (holder_dropped_refused _ c.args.world.now caller c.args.kind c.args.name.now c.requires.there
    (subst (λ (m : MappingRows). (g : List ℕ) → ¬ IsHolderUser m c.args.kind c.args.name.now g) mapped c.in_default.ensures.ok) c.in-Err-drop_holder.fault
    (subst (λ (v : InventoryRows). DropHolderFails v c.args.name.now c.in-Err-drop_holder.fault) same c.in-Err-drop_holder.ensures.err))
