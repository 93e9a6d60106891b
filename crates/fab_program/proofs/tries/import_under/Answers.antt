use Rattle.std.proofs.Common.{ℕ, List, Ok, Err, refl, subst}
use Rattle.fab_program_outside.specs.Coming.{Then}
use Rattle.fab_program_looks.specs.Told.{TellsImport}
use Rattle.fab_program_looks.specs.Tries.{ComesTold}
use Rattle.fab_program.proofs.tries.import_under.Goals as goal

pub returns-in-Ok : goal.returns-in-Ok
returns-in-Ok g c =
    let asked = c.args.asked.now in (
      Ok c.in-Ok.bytes.items,
      c.in-Ok.ensures,
      subst (λ (xs : List ℕ). Then (g.O.Databases.finds c.args.outside.now asked.access.db.now) (λ s. ComesTold g.O.Tables.Store s c.args.moment (λ w m. TellsImport g.W.Write.contents w c.args.policy.now asked.access.token.now m asked.fabric xs asked.most_lost asked.is_json c.args.writer)) c.import_bytes.result)
          c.as_slice.ensures.value c.import_bytes.ensures,
    )

pub returns-in-Err : goal.returns-in-Err
returns-in-Err g c = (Err c.in-Err.fault, c.in-Err.ensures, refl)
