use Rattle.fab_reach_base.proofs.Gathering.{listed_all}
use Rattle.fab_store_tables.specs.Paths.{IsPathOf}
use Rattle.fab_store_tables.proofs.paths.paths_in.Goals as goal

pub returns : goal.returns
returns g c =
    let all = rw c.in-Some.is at c.in_ok-set.ensures in
    listed_all (IsPathOf c.args.lines.now) c.in-Some.set c.in_ok-paths.paths.items c.len-count.ensures.ordered c.in_ok-paths.ensures all
