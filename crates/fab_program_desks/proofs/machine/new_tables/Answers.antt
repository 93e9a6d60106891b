use Rattle.std.proofs.Common.{Ok, refl}
use Rattle.sqlite.specs.Held.{state}
use Rattle.sqlite.specs.Steps.{over_memory}
use Rattle.fab_program_desks.proofs.Finding.{made_new}
use Rattle.fab_program_desks.proofs.machine.new_tables.Goals as goal

pub returns-in-Ok : goal.returns-in-Ok
returns-in-Ok c = made_new (state over_memory) (λ tables. tables.conn) (Ok c.in-Ok.conn) c.in-Ok.conn c.new_over.result refl c.new_over.ensures.made c.new_over.ensures.fault
