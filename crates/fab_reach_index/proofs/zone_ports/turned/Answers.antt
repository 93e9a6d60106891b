use Rattle.std.specs.Ordering.{nat_cmp}
use Rattle.fab_zoning.specs.Edits.{IsIn}
use Rattle.fab_reach_index.specs.Indexes.{zone_cmp}
use Rattle.fab_reach_index.proofs.Placed.{tree_is}
use Rattle.fab_reach_index.proofs.zone_ports.turned.Goals as goal

pub returns : goal.returns
returns g c = tree_is zone_cmp nat_cmp (λ z p. IsIn nat_cmp zone_cmp c.args.zones.now (p, z)) c.new-ports.result c.add_ports.new.ports c.new-ports.ensures.empty c.in_ok-add_ports.ensures
