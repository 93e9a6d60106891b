use Rattle.fab_wire.proofs.tasks.answer_task.Goals as goal

pub returns-in-Import : goal.returns-in-Import
returns-in-Import g c = rw c.in-Import.is c.import_over.ensures
