use Rattle.std.proofs.Common.{ℕ, List, Ok, Err, refl, subst}
use Rattle.fab_files.specs.declared.forms.Form.TheVariants as forms
use Rattle.fab_program_desks.specs.Commands.{ComesIn}
use Rattle.fab_wire.specs.Tasks.{ImportsAt}
use Rattle.fab_program_desks.proofs.commands.import_under.Goals as goal

pub returns-in-Ok : goal.returns-in-Ok
returns-in-Ok g c =
    let asked = c.args.asked.now in (
      Ok c.in-Ok.bytes.items,
      c.in-Ok.ensures,
      subst (λ (xs : List ℕ). ComesIn g.O.Databases g.O.Tables.Store (λ desk m a e. ImportsAt g.O.Tables.Store desk asked.access.token.now m asked.fabric xs a e) g.W.Write.contents forms.Json c.args.outside.now asked.access.db.now c.args.policy c.args.moment c.args.writer c.do_in.result)
          c.as_slice.ensures.value c.do_in.ensures,
    )

pub returns-in-Err : goal.returns-in-Err
returns-in-Err g c = (Err c.in-Err.fault, c.in-Err.ensures, refl)
