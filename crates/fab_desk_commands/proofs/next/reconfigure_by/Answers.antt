use Rattle.std.proofs.Common.{sym, subst}
use Rattle.fab_world.specs.Worlds.{WorldRows}
use Rattle.fab_desk_commands.specs.Nexts.{LeadsAt}
use Rattle.fab_desk_commands.proofs.next.reconfigure_by.Goals as goal

pub turn_in-requires : goal.turn_in-requires
turn_in-requires g c =
    let leads = subst (λ (w : WorldRows). LeadsAt w c.args.name.now c.args.turn) (sym c.reorder.ensures) c.requires.leads in
    subst (λ (w : WorldRows). LeadsAt w c.args.name.now c.args.turn) (sym c.reconfigure-left.ensures.world) leads
