use Rattle.std.specs.Ordering.{nat_cmp}
use Rattle.fab_names.specs.Orders.{name_cmp}
use Rattle.fab_zoning.specs.Edits.{IsIn}
use Rattle.fab_reach_index.proofs.Placed.{holder_added}
use Rattle.fab_reach_index.proofs.indexing.add_holder.Goals as goal

pub returns-in_ok-add_at : goal.returns-in_ok-add_at
returns-in_ok-add_at g c = holder_added (c.args.name.now, c.args.known.now) c.in-Some.holder (IsIn name_cmp nat_cmp c.args.held.now) (IsIn name_cmp nat_cmp c.add_at.new.sets) c.in-Some.is c.in_ok-add_at.ensures
