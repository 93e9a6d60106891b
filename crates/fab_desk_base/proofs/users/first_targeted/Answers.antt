use Rattle.std.proofs.Common.{arith}
use Rattle.fab_reach_base.proofs.fab_lemmas.Scans.{scan_more, scan_end, scan_hit}
use Rattle.fab_desk_base.specs.UserSearch.{IsUntargeted}
use Rattle.fab_desk_base.proofs.users.first_targeted.Goals as goal

pub returns-in-Some : goal.returns-in-Some
returns-in-Some g c = (
  scan_hit (IsUntargeted c.args.mapping.now) c.args.ports.now c.loop-port.port-index c.port-item.result c.loop-port-test.true c.port-item.is c.loop-port.invariant (λ none. none c.in-Some.group c.in-Some.ensures.0),
  c.in-Some.ensures,
)

pub loop-port-preserved : goal.loop-port-preserved
loop-port-preserved g c = scan_more (IsUntargeted c.args.mapping.now) c.args.ports.now c.loop-port.port-index c.port-item.result c.loop-port-test.true c.port-item.is c.loop-port.invariant c.in_default.ensures

pub returns : goal.returns
returns g c = scan_end (IsUntargeted c.args.mapping.now) c.args.ports.now c.loop-port.port-index (omega arith) c.loop-port.invariant
