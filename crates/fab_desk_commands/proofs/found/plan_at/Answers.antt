use Rattle.std.proofs.Common.{refl, sym, ap, ◌∙◌}
use Rattle.fab_desk_commands.proofs.WorldParts.{plans_seen}
use Rattle.fab_desk_commands.proofs.found.plan_at.Goals as goal

pub unreachable-requires : goal.unreachable-requires
unreachable-requires g c =
    let seen = plans_seen _ c.args.world.now c.world.inside.plans refl c.world.view_is in
    let none = c.in-None.ensures.value ∙ ap (λ look. look c.args.name.now) seen ∙ c.requires.1 in
    cc

pub returns : goal.returns
returns g c =
    let seen = plans_seen _ c.args.world.now c.world.inside.plans refl c.world.view_is in
    sym (c.in-Some.ensures.value ∙ ap (λ look. look c.args.name.now) seen)
