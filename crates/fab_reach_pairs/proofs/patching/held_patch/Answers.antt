use Rattle.std.specs.Ordering.{nat_cmp}
use Rattle.fab_names.specs.Orders.{name_cmp}
use Rattle.fab_reach_index.specs.Indexes.{IsHeldBy}
use Rattle.fab_reach_moves.specs.Inner.Listing.{SaysHeld}
use Rattle.fab_reach_moves.specs.Inner.Saying.{IsSaid}
use Rattle.fab_reach_pairs.proofs.Leading.{leads_by}
use Rattle.fab_reach_pairs.proofs.Going.{held_goes}
use Rattle.fab_reach_pairs.proofs.patching.held_patch.Goals as goal

pub returns : goal.returns
returns g c w v are t = leads_by name_cmp nat_cmp (IsHeldBy w) (IsSaid SaysHeld t.gone) (IsSaid SaysHeld t.come) (IsHeldBy v) c.args.held.now c.args.told.now.gone.held c.args.told.now.come.held c.in_ok-sets.sets are t.left.held t.new.held (held_goes w v t.gone t.come t.diff) c.in_ok-sets.ensures
