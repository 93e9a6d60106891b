use Rattle.fab_wire_answers.proofs.showing.put_plan.Goals as goal

pub returns : goal.returns
returns g c = rw (c.word.ensures, c.as_slice.ensures.value, c.as_str.ensures.value) at c.put.ensures.text
