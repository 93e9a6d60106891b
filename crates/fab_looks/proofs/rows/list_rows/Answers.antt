use Rattle.std.proofs.Common.{List, ◌∙◌, subst}
use Rattle.std.specs.List.{AllZip}
use Rattle.fab_desk_base.specs.Showing.{Shows}
use Rattle.fab_desk_base.specs.declared.command.Query.{Query}
use Rattle.fab_looks.proofs.Answered.{names_listed, names_recorded}
use Rattle.fab_looks.proofs.rows.list_rows.Goals as goal

pub answers_to-requires-clause-there : goal.answers_to-requires-clause-there
answers_to-requires-clause-there g c =
    names_recorded c.args.policy.now c.args.world.now c.args.id c.args.kind c.in_ok-names.names c.deref.result.now (c.deref.ensures.value ∙ c.in_ok-queries.ensures) c.in_ok-names.ensures

pub returns : goal.returns
returns g c = (
  c.in_ok-names.names.keys,
  names_listed c.args.policy.now c.args.world.now c.args.id c.args.kind c.in_ok-names.names c.len-count.ensures.ordered c.in_ok-names.ensures,
  subst (λ (qs : List Query). AllZip (Shows c.args.world.now) qs c.in_ok-rows.rows.items) (c.deref.ensures.value ∙ c.in_ok-queries.ensures) c.in_ok-rows.ensures,
)
