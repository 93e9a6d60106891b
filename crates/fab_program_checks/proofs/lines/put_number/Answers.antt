use Rattle.fab_program_checks.specs.Lines.{number_words}
use Rattle.fab_program_checks.proofs.lines.put_number.Goals as goal

pub returns : goal.returns
unfolding number_words
returns g c = rw (c.as_bytes.ensures.value, c.as_bytes-2.ensures.value, c.format.ensures.text, c.as_slice.ensures) at c.put_all.ensures
