use Rattle.std.proofs.Common.{ap, ◌∙◌}
use Rattle.std.specs.FinMap as map
use Rattle.fab_reach_base.proofs.fab_lemmas.SeenMaps.{seen_insert}
use Rattle.fab_reach_base.specs.fab_names.Orders.{name_cmp}
use Rattle.fab_reach_base.proofs.fab_names.OrderLaws.{name_total, name_exact}
use Rattle.fab_desk_commands.proofs.rooms.make_place.Goals as goal

pub returns-clause-ok : goal.returns-clause-ok
returns-clause-ok g c =
    seen_insert name_total name_exact c.args.plans.now c.insert.new.self c.args.name c.blank.result c.in_ok-_former.ensures.updates.0
    ∙ ap (map.insert (map.from_entries {R = name_cmp} c.args.plans.now.entries) c.args.name) c.blank.ensures
