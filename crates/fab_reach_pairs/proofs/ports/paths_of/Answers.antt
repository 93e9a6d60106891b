use Rattle.fab_reach_pairs.specs.Owning.{IsOwn}
use Rattle.fab_reach_base.proofs.Gathering.{listed_all}
use Rattle.fab_reach_pairs.proofs.ports.paths_of.Goals as goal

pub returns : goal.returns
returns g c = listed_all (IsOwn c.args.paths.now c.args.owners.now c.args.host.now) c.in_ok-own.own c.in_ok-items.items.items c.len-count.ensures.ordered c.in_ok-items.ensures c.in_ok-own.ensures
