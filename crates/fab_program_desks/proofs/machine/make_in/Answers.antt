use Rattle.std.proofs.Common.{refl}
use Rattle.fab_program_desks.proofs.machine.make_in.Goals as goal

pub returns-in-Ok-clause-made : goal.returns-in-Ok-clause-made
returns-in-Ok-clause-made g c = record {
  fresh = c.in-Ok.ensures.fresh;
  tables = λ clean. (c.init.ensures.clean clean, (c.in-Ok.ensures.done clean).2);
  stop = λ clean. c.init.ensures.stop clean;
}

pub returns-in-Err-clause-fault : goal.returns-in-Err-clause-fault
returns-in-Err-clause-fault g c = record {
  is = refl;
  counted = c.in-Err.ensures.counted;
  same = λ clean. c.in-Err.ensures.failed clean;
  stop = λ clean. c.init.ensures.stop clean;
}
