use Rattle.fab_store_world.proofs.InOrder.{none_in_order}
use Rattle.fab_store_world.proofs.plans.rows_under.Goals as goal

pub returns-in-None-clause-in_order : goal.returns-in-None-clause-in_order
returns-in-None-clause-in_order g c = none_in_order c.new.result.items c.new.ensures.items
