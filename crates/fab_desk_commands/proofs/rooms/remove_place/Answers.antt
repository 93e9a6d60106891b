use Rattle.fab_reach_base.proofs.fab_lemmas.SeenMaps.{seen_remove}
use Rattle.fab_reach_base.proofs.fab_names.OrderLaws.{name_total, name_exact}
use Rattle.fab_desk_commands.proofs.rooms.remove_place.Goals as goal

pub returns : goal.returns
returns g c = seen_remove name_total name_exact c.args.plans.now c.remove.new.self c.args.name.now c.remove.ensures.updates.0
