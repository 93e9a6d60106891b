use Rattle.fab_names.specs.Orders.{name_cmp}
use Rattle.fab_reach_base.specs.Views.{seen}
use Rattle.fab_reach_books.specs.Inner.Sets.{HasName}
use Rattle.fab_reach_index.specs.Indexes.{IsHostServed}
use Rattle.fab_reach_index.proofs.Placed.{tree_is}
use Rattle.fab_reach_pairs.proofs.group_maps.served_before.Goals as goal

pub returns : goal.returns
returns g c = tree_is name_cmp name_cmp (λ q n. HasName c.args.names.now n × IsHostServed (seen c.args.before.now) q n) c.new-groups.result c.add_all_served_before.new.groups c.new-groups.ensures.empty c.in_ok-add_all_served_before.ensures
