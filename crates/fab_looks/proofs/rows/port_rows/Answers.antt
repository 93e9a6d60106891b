use Rattle.std.proofs.Common.{List, ◌∙◌, subst}
use Rattle.std.specs.List.{AllZip}
use Rattle.fab_desk_base.specs.Showing.{Shows}
use Rattle.fab_desk_base.specs.declared.command.Query.{Query}
use Rattle.fab_looks.proofs.Answered.{ports_listed, ports_recorded}
use Rattle.fab_looks.proofs.rows.port_rows.Goals as goal

pub answers_to-requires-clause-there : goal.answers_to-requires-clause-there
answers_to-requires-clause-there g c = ports_recorded c.args.world.now c.in_ok-ports.ports c.deref.result.now (c.deref.ensures.value ∙ c.in_ok-queries.ensures) c.in_ok-ports.ensures

pub returns : goal.returns
returns g c = λ p id. (
  c.in_ok-ports.ports.keys,
  ports_listed p c.args.world.now id c.in_ok-ports.ports c.len-count.ensures.ordered c.in_ok-ports.ensures,
  subst (λ (qs : List Query). AllZip (Shows c.args.world.now) qs c.in_ok-rows.rows.items) (c.deref.ensures.value ∙ c.in_ok-queries.ensures) c.in_ok-rows.ensures,
)
