use Rattle.fab_program_desks.proofs.Finding.{either}
use Rattle.fab_program_desks.proofs.machine.bring.Goals as goal

pub returns-in-Ok-clause-done : goal.returns-in-Ok-clause-done
returns-in-Ok-clause-done g c clean = (
  c.migrate.ensures.clean clean,
  record {
    tables = either c.in-Ok.field-0 (c.in-Ok.ensures.done clean) (λ told. (c.in-Ok.ensures.present told, c.in-Ok.ensures.unchanged clean told));
    stop = c.migrate.ensures.stop clean;
  },
)

pub returns-in-Err-clause-fault : goal.returns-in-Err-clause-fault
returns-in-Err-clause-fault g c = record {
  why = c.in-Err.fault;
  is = c.of_opening.ensures;
  counted = c.in-Err.ensures.counted;
  same = λ clean. c.in-Err.ensures.failed clean;
  holds = λ clean known. c.in-Err.ensures.fault clean known;
  stop = λ clean. c.migrate.ensures.stop clean;
}
