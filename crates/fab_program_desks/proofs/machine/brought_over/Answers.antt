use Rattle.std.proofs.Common.{Ok, sym, ap, ◌∙◌, inr, ℕ, subst}
use Rattle.sqlite.specs.Held.{state}
use Rattle.fab_program_desks.specs.Tables.{IsUnbrought}
use Rattle.fab_program_desks.proofs.machine.brought_over.Goals as goal

pub returns-in-Ok-bring-clause-done : goal.returns-in-Ok-bring-clause-done
returns-in-Ok-bring-clause-done g c = (c.new-tables.result.conn, c.in-Ok.is ∙ ap Ok (sym c.new-tables.ensures.conn), c.in-Ok-bring.ensures.done)

pub returns-in-Err-bring-clause-fault : goal.returns-in-Err-bring-clause-fault
returns-in-Err-bring-clause-fault g c =
    let after = c.bring.new.tables in
    inr (
      c.new-tables.result.conn,
      c.in-Ok.is ∙ ap Ok (sym c.new-tables.ensures.conn),
      (
        after.conn,
        after.refusals,
        subst (λ (n : ℕ). IsUnbrought (state g.S.Store c.new-tables.result.conn) (state g.S.Store after.conn) n after.refusals c.in-Err-bring.fault) c.new-tables.ensures.none c.in-Err-bring.ensures.fault,
      ),
    )
