use Rattle.std.proofs.Common.{subst}
use Rattle.fab_reach_base.specs.Records.{Records}
use Rattle.fab_reach_base.specs.Orders.{IsListOf}
use Rattle.fab_reach_base.specs.Reach.{Reaches}
use Rattle.fab_reach_base.specs.Views.{seen}
use Rattle.fab_reach_base.proofs.Gathering.{listed_all}
use Rattle.fab_reach_base.proofs.listing.plain_paths.Goals as goal

pub returns : goal.returns
returns g c =
    subst (λ (w : Records). IsListOf (Reaches w) c.in_ok-items.items.items) c.of.ensures
    (listed_all (Reaches (seen c.of.result)) c.in_ok-paths.paths c.in_ok-items.items.items c.len-count.ensures.ordered c.in_ok-items.ensures c.in_ok-paths.ensures)
