use Rattle.std.proofs.Common.{sym}
use Rattle.std.specs.FinMap as map
use Rattle.fab_plans_rows.specs.Inner.Losses.{GroupLacks}
use Rattle.fab_plans_rows.proofs.Firsts.{at_group}
use Rattle.fab_plans_rows.proofs.at_rows.lost_at.Goals as goal

pub returns-in-Some : goal.returns-in-Some
returns-in-Some g c = at_group (map.get c.args.mapping.now.groups) c.args.name.now (GroupLacks c.args.inventory.now) c.in-Some.group.now c.first_lost.result (sym c.in-Some.ensures) c.first_lost.ensures
