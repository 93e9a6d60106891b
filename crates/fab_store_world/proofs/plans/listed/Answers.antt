use Rattle.fab_store_world.proofs.InOrder.{set_in_order}
use Rattle.fab_store_world.proofs.plans.listed.Goals as goal

pub returns-clause-in_order : goal.returns-clause-in_order
returns-clause-in_order g c = set_in_order c.args.rows.now c.in_ok-items.items.items c.len-count.ensures.ordered c.in_ok-items.ensures
