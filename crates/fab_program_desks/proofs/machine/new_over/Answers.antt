use Rattle.std.proofs.Common.{Ok, sym, ap, ◌∙◌, inr, ℕ, subst}
use Rattle.sqlite.specs.Held.{state}
use Rattle.fab_program_desks.specs.Tables.{IsUnmade}
use Rattle.fab_program_desks.proofs.machine.new_over.Goals as goal

pub returns-in-Ok-make_in-clause-made : goal.returns-in-Ok-make_in-clause-made
returns-in-Ok-make_in-clause-made g c = (c.new-tables.result.conn, c.in-Ok.is ∙ ap Ok (sym c.new-tables.ensures.conn), c.in-Ok-make_in.ensures.made)

pub returns-in-Err-make_in-clause-fault : goal.returns-in-Err-make_in-clause-fault
returns-in-Err-make_in-clause-fault g c =
    let after = c.make_in.new.tables in
    inr (
      c.new-tables.result.conn,
      c.in-Ok.is ∙ ap Ok (sym c.new-tables.ensures.conn),
      (
        after.conn,
        after.refusals,
        subst (λ (n : ℕ). IsUnmade (state g.S.Store c.new-tables.result.conn) (state g.S.Store after.conn) n after.refusals c.in-Err-make_in.fault) c.new-tables.ensures.none c.in-Err-make_in.ensures.fault,
      ),
    )
