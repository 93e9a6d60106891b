use Rattle.std.proofs.Common.{ℕ, List, ◌++◌, map, sym, ap, ◌∙◌, arith}
use Rattle.std.proofs.lemmas.List.{append-nil, take_all}
use Rattle.fab_desk_base.specs.declared.command.Query.TheVariants as query
use Rattle.fab_looks.proofs.Gathered.{ports_next}
use Rattle.fab_looks.proofs.way.add_ports.Goals as goal

pub loop-port-init : goal.loop-port-init
loop-port-init g c = sym (append-nil c.args.queries.now.items)

pub loop-port-preserved : goal.loop-port-preserved
loop-port-preserved g c =
    ports_next c.args.ports.now c.loop-port.port-index c.port-item.result c.args.queries.now.items c.loop-port.queries.items c.push.new.self.items c.loop-port-test.true c.port-item.is c.loop-port.invariant c.in_ok-push.ensures.items

pub returns : goal.returns
returns g c =
    c.loop-port.invariant
    ∙ ap (λ (ports : List ℕ). c.args.queries.now.items ++ map (λ (a : ℕ). query.Port a) ports) (take_all c.loop-port.port-index c.args.ports.now (omega (arith, c.loop-port-test.false)))
