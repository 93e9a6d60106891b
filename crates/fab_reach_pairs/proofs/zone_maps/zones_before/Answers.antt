use Rattle.std.specs.Ordering.{nat_cmp}
use Rattle.fab_zoning.specs.Edits.{IsIn}
use Rattle.fab_reach_books.specs.Inner.Sets.{HasPortIn}
use Rattle.fab_reach_index.specs.Indexes.{zone_cmp}
use Rattle.fab_reach_index.proofs.Placed.{tree_is}
use Rattle.fab_reach_pairs.proofs.zone_maps.zones_before.Goals as goal

pub returns : goal.returns
returns g c = tree_is nat_cmp zone_cmp (λ p z. HasPortIn c.args.ports.now p × IsIn nat_cmp zone_cmp c.args.index.now.zones (p, z)) c.new-zones.result c.add_all_before.new.zones c.new-zones.ensures.empty c.in_ok-add_all_before.ensures
