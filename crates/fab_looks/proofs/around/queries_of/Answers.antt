use Rattle.fab_looks.proofs.Ports.{of_port}
use Rattle.fab_looks.proofs.around.queries_of.Goals as goal

pub returns : goal.returns
returns g c =
    of_port c.args.policy.now c.args.world.now c.args.id c.args.port.now c.new-queries.result.items c.add_open.new.queries.items c.add_holder.new.queries.items c.add_zones.new.queries.items c.add_all_targeted.new.queries.items c.new-queries.ensures.items c.in_ok-add_open.ensures c.in_ok-add_holder.ensures c.in_ok-add_zones.ensures c.in_ok-add_all_targeted.ensures
