use Rattle.fab_program_outside.specs.Faults.{word_line}
use Rattle.fab_program_outside.proofs.telling.put_word.Goals as goal

pub returns : goal.returns
unfolding word_line
returns g c = rw (c.as_slice.ensures, c.as_bytes.ensures.value, c.as_slice-2.ensures) at c.put_all.ensures
