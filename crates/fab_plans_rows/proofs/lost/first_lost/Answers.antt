use Rattle.fab_plans_rows.proofs.Firsts.{none_lost}
use Rattle.fab_plans_rows.proofs.lost.first_lost.Goals as goal

pub returns-in-None : goal.returns-in-None
returns-in-None g c = none_lost c.args.inventory.now c.args.group.now c.in_default.ensures c.in_default-gone_target.ensures c.in-None.ensures
