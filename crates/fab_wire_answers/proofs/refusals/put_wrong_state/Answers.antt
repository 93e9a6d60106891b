use Rattle.fab_wire_answers.proofs.refusals.put_wrong_state.Goals as goal

pub returns : goal.returns
returns g c = rw (c.number.ensures, c.name.ensures, c.word.ensures) at c.put.ensures.text
