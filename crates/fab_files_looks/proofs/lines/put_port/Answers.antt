use Rattle.fab_files_looks.proofs.lines.put_port.Goals as goal

pub returns : goal.returns
returns g c = rw (c.letters.ensures, c.letters-2.ensures, c.as_bytes.ensures.value, c.fabric_of.ensures) at c.put_three.ensures
