use Rattle.std.proofs.Common.{sym}
use Rattle.fab_reach_base.specs.Views.{seen}
use Rattle.fab_looks_tries.proofs.Losing.{host_added}
use Rattle.fab_looks_tries.proofs.hosts.add_host.Goals as goal

pub returns : goal.returns
returns g c =
    host_added (seen c.args.view.now) c.args.initiator.now c.in-Some.port c.in-Some-host_of.host c.args.hosts.now c.insert.new.self (sym c.in-Some.ensures.port) c.in-Some-host_of.ensures c.in_ok-insert.ensures.updates.0
