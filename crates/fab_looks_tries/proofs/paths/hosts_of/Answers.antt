use Rattle.fab_reach_base.specs.Views.{seen}
use Rattle.fab_looks_tries.proofs.paths.hosts_of.Goals as goal

pub returns : goal.returns
returns g c v stands list =
    let left = c.in_ok-left.ensures v stands in
    c.in_ok-hosts.ensures (seen c.args.before.now) v (c.in_ok-losing.ensures v list) left.0 left.1
