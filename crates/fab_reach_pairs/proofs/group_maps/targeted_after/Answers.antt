use Rattle.std.specs.Ordering.{nat_cmp}
use Rattle.fab_names.specs.Orders.{name_cmp}
use Rattle.fab_reach_books.specs.Inner.Sets.{HasName}
use Rattle.fab_reach_index.specs.Indexes.{IsTargetOf}
use Rattle.fab_reach_index.proofs.Placed.{tree_is}
use Rattle.fab_reach_pairs.proofs.group_maps.targeted_after.Goals as goal

pub returns : goal.returns
returns g c v t = tree_is nat_cmp name_cmp (λ q n. HasName c.args.names.now n × IsTargetOf v q n) c.new-groups.result c.add_all_targeted_after.new.groups c.new-groups.ensures.empty (c.in_ok-add_all_targeted_after.ensures v t)
