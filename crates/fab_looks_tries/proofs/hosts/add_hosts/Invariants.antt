use Rattle.std.proofs.Common.{take}
use Rattle.fab_desk_machine.specs.fab_desk_base.Tenants.{Has}
use Rattle.fab_looks_tries.specs.Inner.Gathered.{IsHostOfSome}
use Rattle.fab_reach_base.specs.Adding.{Adds}
use Rattle.fab_reach_base.specs.Views.{seen}
use Rattle.fab_looks_tries.proofs.hosts.add_hosts.Given as goal

abbrev pub invariant-loop-path : goal.invariant-loop-path
invariant-loop-path g l = Adds (IsHostOfSome (seen l.view) (take l.path-index l.paths)) (Has l.fn.hosts) (Has l.hosts)
