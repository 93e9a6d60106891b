use Rattle.fab_desk_machine.specs.fab_desk_base.Tenants.{Has}
use Rattle.fab_reach_base.proofs.Adding.{before_next}
use Rattle.fab_reach_base.specs.Reach.{IsInitiatorOf}
use Rattle.fab_reach_base.specs.Views.{seen}
use Rattle.fab_reach_base.specs.declared.path.Path.{Path}
use Rattle.fab_looks_tries.proofs.hosts.add_hosts.Goals as goal

pub loop-path-preserved : goal.loop-path-preserved
loop-path-preserved g c =
    before_next (λ (x : Path). IsInitiatorOf (seen c.args.view.now) x.initiator) c.args.paths.now c.loop-path.path-index c.path-item.result (Has c.args.hosts.now) (Has c.loop-path.hosts) (Has c.add_host.new.hosts) c.loop-path-test.true c.path-item.is c.loop-path.invariant c.in_ok-add_host.ensures
