use Rattle.fab_wire_base.proofs.parts.name_part.Goals as goal

pub returns : goal.returns
returns g c = rw (c.as_slice.ensures.value, c.in_ok-part.ensures) at c.read_name.ensures
