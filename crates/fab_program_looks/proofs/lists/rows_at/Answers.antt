use Rattle.std.proofs.Common.{IfOk, sym, subst}
use Rattle.std.proofs.lemmas.Result.{IfOk-weaker}
use Rattle.fab_program_looks.specs.Lists.{AreListed}
use Rattle.fab_program_words.specs.declared.words.ListKind.{ListKind}
use Rattle.fab_program_looks.proofs.lists.rows_at.Goals as goal

pub returns-in-Ports : goal.returns-in-Ports
returns-in-Ports c =
    subst (λ (k : ListKind). IfOk c.port_rows.result (λ rows. AreListed c.args.policy.now c.args.world.now c.args.id k rows.items)) (sym c.in-Ports.is)
    (IfOk-weaker c.port_rows.result _ _ (λ rows h. h c.args.policy.now c.args.id) c.port_rows.ensures)
