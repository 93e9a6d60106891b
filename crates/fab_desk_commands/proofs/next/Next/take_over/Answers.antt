use Rattle.std.proofs.Common.{◌≡◌, true, sym, ap, ◌∙◌, subst}
use Rattle.std.specs.FinMap as map
use Rattle.fab_world.specs.Worlds.{WorldRows}
use Rattle.fab_desk_base.specs.Effects.{with_plan}
use Rattle.fab_desk_commands.specs.Nexts.{blank_plan, next_world, with_room, IsReadyFor, LeadsAt}
use Rattle.fab_desk_commands.proofs.Placing.{placed_over, put_there}
use Rattle.fab_desk_commands.proofs.next.Next.take_over.Goals as goal

pub put_plan-requires : goal.put_plan-requires
put_plan-requires g c =
    let ready = subst (IsReadyFor c.args.world.now) c.in-Staged.is c.requires in
    let n = c.in-Staged.name in
    subst (λ (w : WorldRows). map.contains_key w.plans n ≡ true) (sym ready.2) (put_there ready.0.plans n (blank_plan n))

pub turn_in-requires : goal.turn_in-requires
turn_in-requires g c =
    let ready = subst (IsReadyFor c.args.world.now) c.in-Turned.is c.requires in
    subst (λ (w : WorldRows). LeadsAt w c.in-Turned.name c.in-Turned.turn) (sym ready.2) ready.1

pub reconfigure_by-requires-clause-leads : goal.reconfigure_by-requires-clause-leads
reconfigure_by-requires-clause-leads g c =
    let ready = subst (IsReadyFor c.args.world.now) c.in-Reconfigured.is c.requires in
    subst (λ (w : WorldRows). LeadsAt w c.in-Reconfigured.name c.in-Reconfigured.turn) (sym ready.2) ready.1.0

pub returns-in-Staged-clause-world : goal.returns-in-Staged-clause-world
returns-in-Staged-clause-world g c before room =
    let n = c.in-Staged.name in
    let p = c.in-Staged.plan in
    c.put_plan.ensures
    ∙ ap (with_plan n p) (room ∙ ap (with_room before) c.in-Staged.is)
    ∙ placed_over before n p
    ∙ ap (next_world before) (sym c.in-Staged.is)
