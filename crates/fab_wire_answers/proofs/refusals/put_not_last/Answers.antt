use Rattle.fab_wire_answers.proofs.refusals.put_not_last.Goals as goal

pub returns : goal.returns
returns g c = rw (c.number.ensures, c.name.ensures) at c.put.ensures.text
