use Rattle.std.proofs.Common.{◌≡◌, List, refl, sym, ap, subst}
use Rattle.fab_reach_base.specs.fab_inventory.Imports.{ImportFails}
use Rattle.fab_reach_base.specs.fab_inventory.Inventories.{InventoryRows}
use Rattle.fab_reach_base.specs.fab_inventory.declared.port.PortRow.{PortRow}
use Rattle.fab_reach_base.specs.fab_mapping.Soundness.{Fits}
use Rattle.fab_world.specs.Worlds.{WorldRows}
use Rattle.fab_desk_base.specs.Trying.{IsTryFault}
use Rattle.fab_desk_base.specs.declared.command.Command.TheVariants.{Import}
use Rattle.fab_desk_commands.proofs.SoundAfter.{sound_after, said_of}
use Rattle.fab_desk_commands.proofs.StillFits.{fits_import}
use Rattle.fab_desk_commands.proofs.TriedImports.{ImportTried, import_made, import_refused}
use Rattle.fab_desk_commands.proofs.imports.imported.Goals as goal

pub returns-in-Ok-clause-ok : goal.returns-in-Ok-clause-ok
returns-in-Ok-clause-ok g c caller =
    let same : c.world.inside.inventory ≡ c.args.world.now.inventory = ap (λ (w : WorldRows). w.inventory) c.world.view_is in
    let tried : ImportTried c.args.fabric c.as_slice.result.now c.world.inside.inventory c.in-Ok.next = record { imported = c.in-Ok.ensures.ok; rest = c.in-Ok.ensures.rest; sound = c.in-Ok.ensures.sound } in
    import_made c.args.world.now caller c.args.fabric c.args.rows.now c.in-Ok.next
    (said_of (λ (rows : List PortRow) (v : InventoryRows). ImportTried c.args.fabric rows v c.in-Ok.next) c.as_slice.ensures.value same tried)

pub returns-in-Ok-clause-sound : goal.returns-in-Ok-clause-sound
returns-in-Ok-clause-sound g c =
    let same : c.world.inside.inventory ≡ c.args.world.now.inventory = ap (λ (w : WorldRows). w.inventory) c.world.view_is in
    let fits : Fits c.args.world.now.inventory c.args.world.now.config.mapping → Fits c.in-Ok.next c.args.world.now.config.mapping = λ before.
    subst (λ (v : InventoryRows). Fits v c.args.world.now.config.mapping) (sym c.in-Ok.ensures.rest)
    (fits_import c.args.fabric c.as_slice.result.now c.args.world.now.config.mapping c.world.inside.inventory c.in-Ok.next.ports c.in-Ok.ensures.ok (subst (λ (v : InventoryRows). Fits v c.args.world.now.config.mapping) (sym same) before)) in
    sound_after c.args.world.now (Import c.args.fabric c.args.rows.now) c.in-Ok.next refl c.in-Ok.ensures.sound fits

pub returns-in-Err-clause-err : goal.returns-in-Err-clause-err
returns-in-Err-clause-err g c caller =
    let same : c.world.inside.inventory ≡ c.args.world.now.inventory = ap (λ (w : WorldRows). w.inventory) c.world.view_is in
    subst (IsTryFault c.args.world.now caller (Import c.args.fabric c.args.rows.now)) (sym c.refusal.ensures)
    (import_refused c.args.world.now caller c.args.fabric c.args.rows.now c.in-Err.fault
    (said_of (λ (rows : List PortRow) (v : InventoryRows). ImportFails c.args.fabric rows v.ports c.in-Err.fault) c.as_slice.ensures.value same c.in-Err.ensures.err))
