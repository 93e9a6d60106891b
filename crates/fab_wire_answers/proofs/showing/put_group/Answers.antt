use Rattle.fab_wire_answers.proofs.showing.put_group.Goals as goal

pub returns : goal.returns
returns g c = rw (c.as_slice.ensures.value, c.as_slice-2.ensures.value, c.as_slice-3.ensures.value) at c.put.ensures.text
