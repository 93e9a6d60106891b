use Rattle.fab_program_outside.proofs.telling.refuse_text.Goals as goal

pub returns-clause-told : goal.returns-clause-told
returns-clause-told g c = (c.put_word.result, c.put_word.ensures)
