use Rattle.fab_looks.proofs.Gathered.{of_way}
use Rattle.fab_looks.proofs.way.way_queries.Goals as goal

pub returns : goal.returns
returns g c =
    of_way c.args.policy.now c.args.world.now c.args.id c.args.host.now c.args.volume.now c.new-queries.result.items c.add_host.new.queries.items c.add_open.new.queries.items c.add_groups.new.queries.items c.new-queries.ensures.items c.in_ok-add_host.ensures c.in_ok-add_open.ensures c.in_ok-add_groups.ensures
