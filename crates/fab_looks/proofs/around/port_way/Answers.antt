use Rattle.std.proofs.Common.{List, sym, subst}
use Rattle.std.specs.List.{AllZip}
use Rattle.fab_desk_base.specs.Showing.{Shows}
use Rattle.fab_desk_base.specs.declared.command.Query.{Query}
use Rattle.fab_looks.specs.PortWays.{AreOfPort}
use Rattle.fab_looks.proofs.Ports.{port_recorded}
use Rattle.fab_looks.proofs.around.port_way.Goals as goal

pub answers_to-requires-clause-there : goal.answers_to-requires-clause-there
answers_to-requires-clause-there g c =
    port_recorded c.args.policy.now c.args.world.now c.args.id c.args.port.now c.deref.result.now
    (subst (λ (qs : List Query). AreOfPort c.args.policy.now c.args.world.now c.args.id c.args.port.now qs) (sym c.deref.ensures.value) c.in_ok-queries.ensures)

pub returns : goal.returns
returns g c = (
  c.in_ok-queries.queries.items,
  c.in_ok-queries.ensures,
  subst (λ (qs : List Query). AllZip (Shows c.args.world.now) qs c.in_ok-rows.rows.items) c.deref.ensures.value c.in_ok-rows.ensures,
)
