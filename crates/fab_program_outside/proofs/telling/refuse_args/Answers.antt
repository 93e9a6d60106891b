use Rattle.fab_program_outside.proofs.telling.refuse_args.Goals as goal

pub returns-in-NotText-clause-told : goal.returns-in-NotText-clause-told
returns-in-NotText-clause-told g c = rw c.in-NotText.is c.refuse_text.ensures.told

pub returns-in-Memory-clause-told : goal.returns-in-Memory-clause-told
returns-in-Memory-clause-told g c = rw c.in-Memory.is c.fail.ensures.told
