use Rattle.std.proofs.Common.{take}
use Rattle.fab_reach_base.specs.Adding.{Adds}
use Rattle.fab_reach_base.specs.Views.{seen}
use Rattle.fab_desk_base.specs.Tenants.{Has}
use Rattle.fab_desk_trials.specs.Gathered.{IsOfSomeHost}
use Rattle.fab_desk_trials.proofs.plan_steps.add_hosts.Given as goal

abbrev pub invariant-loop-host : goal.invariant-loop-host
invariant-loop-host g l = Adds (IsOfSomeHost (seen l.view) (take l.host-index l.hosts)) (Has l.fn.tenants) (Has l.tenants)
