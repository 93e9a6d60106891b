use Rattle.std.proofs.Common.{◌≡◌, Some, ap, sym, subst, ◌∙◌, refl}
use Rattle.std.specs.FinMap as map
use Rattle.fab_reach_base.proofs.fab_lemmas.SeenMaps.{same_look_ups}
use Rattle.fab_reach_base.specs.fab_names.Orders.{name_cmp}
use Rattle.fab_reach_base.proofs.fab_names.OrderLaws.{name_total}
use Rattle.fab_world.specs.PlanRecords.{PlanRecord}
use Rattle.fab_world.specs.Worlds.{WorldRows}
use Rattle.fab_desk_commands.specs.Nexts.{Leads, plans_turned, turned_at}
use Rattle.fab_desk_commands.proofs.next.turn_in.Goals as goal

pub turn_at-requires : goal.turn_at-requires
turn_at-requires g c =
    let look_ups = same_look_ups name_total c.world.inside.plans c.args.world.now.plans (ap (λ (w : WorldRows). w.plans) c.world.view_is) in
    subst (λ f. (p : PlanRecord) × (f c.args.name.now ≡ Some p) × Leads c.args.turn p) (sym look_ups) c.requires

pub returns : goal.returns
returns g c =
    let plans = map.from_entries {R = name_cmp} c.world.inside.plans.entries in
    let look_ups = same_look_ups name_total c.world.inside.plans plans refl in
    let with_plans = λ (m : map.FinMap name_cmp PlanRecord). let w : WorldRows = record { inventory = c.world.inside.inventory; config = c.world.inside.config; plans = m; order = c.world.inside.order.items; revision = c.world.inside.revision } in w in
    ap with_plans (c.turn_at.ensures ∙ ap (λ f. plans_turned c.args.name.now c.args.turn (f c.args.name.now) plans) look_ups) ∙ ap (turned_at c.args.name.now c.args.turn) c.world.view_is
