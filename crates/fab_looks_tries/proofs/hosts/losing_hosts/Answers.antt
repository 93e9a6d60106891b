use Rattle.fab_reach_base.specs.Views.{seen}
use Rattle.fab_looks_tries.proofs.Losing.{losing_are}
use Rattle.fab_looks_tries.proofs.hosts.losing_hosts.Goals as goal

pub returns : goal.returns
returns g c v list = losing_are (seen c.args.before.now) v c.args.lost.now c.new-hosts.result c.add_hosts.new.hosts c.new-hosts.ensures.empty list c.in_ok-add_hosts.ensures
