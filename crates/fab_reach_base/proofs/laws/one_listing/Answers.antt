use Rattle.fab_reach_base.specs.Reach.{Reaches}
use Rattle.fab_reach_base.proofs.SameLists.{one_list}
use Rattle.fab_reach_base.proofs.laws.one_listing.Goals as goal

pub returns : goal.returns
returns c w = one_list (Reaches w)
