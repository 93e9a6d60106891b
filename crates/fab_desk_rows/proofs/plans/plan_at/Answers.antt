use Rattle.std.proofs.Common.{sym, ap, ◌∙◌, subst}
use Rattle.std.proofs.lemmas.Option.{same_Some}
use Rattle.fab_world.specs.Worlds.{WorldRows}
use Rattle.fab_desk_commands.specs.Nexts.{Leads}
use Rattle.fab_desk_rows.proofs.WorldPlans.{look}
use Rattle.fab_desk_rows.proofs.plans.plan_at.Goals as goal

pub unreachable-requires : goal.unreachable-requires
unreachable-requires g c =
    let seen = look c.world.inside.plans c.args.world.now (ap (λ (w : WorldRows). w.plans) c.world.view_is) in
    let none = c.in-None.ensures.value ∙ ap (λ look. look c.args.name.now) seen ∙ c.requires.1 in
    cc

pub returns-clause-plan : goal.returns-clause-plan
returns-clause-plan g c =
    let seen = look c.world.inside.plans c.args.world.now (ap (λ (w : WorldRows). w.plans) c.world.view_is) in
    sym (c.in-Some.ensures.value ∙ ap (λ look. look c.args.name.now) seen)

pub returns-clause-leads : goal.returns-clause-leads
returns-clause-leads g c =
    let seen = look c.world.inside.plans c.args.world.now (ap (λ (w : WorldRows). w.plans) c.world.view_is) in
    let there = c.in-Some.ensures.value ∙ ap (λ look. look c.args.name.now) seen in
    subst (Leads c.args.turn.now) (sym (same_Some c.in-Some.plan.now c.requires.0 (there ∙ c.requires.1))) c.requires.2
