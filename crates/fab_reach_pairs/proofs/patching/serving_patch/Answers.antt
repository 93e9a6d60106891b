use Rattle.fab_names.specs.Orders.{name_cmp}
use Rattle.fab_reach_index.specs.Indexes.{IsHostGroupOf}
use Rattle.fab_reach_moves.specs.Inner.Saying.{IsSaid, SaysServing}
use Rattle.fab_reach_pairs.proofs.Leading.{leads_by}
use Rattle.fab_reach_pairs.proofs.Going.{serving_goes}
use Rattle.fab_reach_pairs.proofs.patching.serving_patch.Goals as goal

pub returns : goal.returns
returns g c w v are t = leads_by name_cmp name_cmp (IsHostGroupOf w) (IsSaid SaysServing t.gone) (IsSaid SaysServing t.come) (IsHostGroupOf v) c.args.index.now.serving c.args.told.now.gone.serving c.args.told.now.come.serving c.in_ok-serving.serving are.serving t.left.serving t.new.serving (serving_goes w v t.gone t.come t.diff) c.in_ok-serving.ensures
