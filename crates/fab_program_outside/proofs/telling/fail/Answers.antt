use Rattle.fab_program_outside.proofs.telling.fail.Goals as goal

pub returns-clause-told : goal.returns-clause-told
returns-clause-told g c = (c.put_fault.result, c.put_fault.ensures)
