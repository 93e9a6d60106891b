use Rattle.std.proofs.Common.{rules}
use Rattle.fab_reach_base.proofs.fab_lemmas.SeenMaps.{seen_insert}
use Rattle.fab_reach_base.proofs.fab_names.OrderLaws.{name_total, name_exact}
use Rattle.fab_desk_commands.proofs.rooms.put_in_place.Goals as goal

pub returns-in-Some : goal.returns-in-Some
returns-in-Some g c = seen_insert name_total name_exact c.args.plans.now (c.get_mut.follows.lender c.args.plan) c.args.name.now c.args.plan ((c.get_mut.follows.holds c.args.plan).3 (search rules)).0
