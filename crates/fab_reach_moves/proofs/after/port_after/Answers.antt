use Rattle.std.proofs.Common.{◌∙◌}
use Rattle.fab_reach_base.specs.Views.{seen}
use Rattle.fab_reach_moves.proofs.PortsAfter.{port_come, port_gone, port_kept}
use Rattle.fab_reach_moves.proofs.after.port_after.Goals as goal

pub returns-in-Some : goal.returns-in-Some
returns-in-Some g c v t =
    let h = c.in-Some.ensures t.come t.new in
    port_come (seen c.args.before.now) v t.gone t.come t.diff c.args.name.now c.in-Some.port h.0 h.1

pub returns-in-Some-said_port : goal.returns-in-Some-said_port
returns-in-Some-said_port g c v t =
    let h = c.in-Some-said_port.ensures t.gone t.left in
    port_gone (seen c.args.before.now) v t.gone t.come t.diff c.args.name.now c.in-Some-said_port._port h.0 h.1 (c.in_default.ensures t.come t.new)

pub returns : goal.returns
returns g c v t = c.port.ensures.port ∙ port_kept (seen c.args.before.now) v t.gone t.come t.diff c.args.name.now (c.in_default-said_port.ensures t.gone t.left) (c.in_default.ensures t.come t.new)
