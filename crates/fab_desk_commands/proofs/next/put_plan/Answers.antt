use Rattle.std.proofs.Common.{ap, ◌∙◌, is_some}
use Rattle.fab_reach_base.proofs.fab_lemmas.SeenMaps.{same_look_ups}
use Rattle.fab_reach_base.proofs.fab_names.OrderLaws.{name_total}
use Rattle.fab_world.specs.Worlds.{WorldRows}
use Rattle.fab_desk_commands.proofs.next.put_plan.Goals as goal

pub put_in_place-requires : goal.put_in_place-requires
put_in_place-requires g c =
    let look_ups = same_look_ups name_total c.world.inside.plans c.args.world.now.plans (ap (λ (w : WorldRows). w.plans) c.world.view_is) in
    ap (λ f. is_some (f c.args.name.now)) look_ups ∙ c.requires
