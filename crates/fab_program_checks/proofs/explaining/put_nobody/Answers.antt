use Rattle.fab_program_checks.specs.Explains.{nobody_line}
use Rattle.fab_program_checks.proofs.explaining.put_nobody.Goals as goal

pub returns : goal.returns
unfolding nobody_line
returns g c = rw (c.as_slice.ensures, c.as_bytes.ensures.text, c.as_slice-2.ensures) at c.put_all.ensures
