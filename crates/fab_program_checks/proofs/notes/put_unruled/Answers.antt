use Rattle.fab_program_checks.specs.Notes.{unruled_words}
use Rattle.fab_program_checks.proofs.notes.put_unruled.Goals as goal

pub returns : goal.returns
unfolding unruled_words
returns g c = rw (c.as_slice.ensures, c.as_bytes.ensures.value, c.word.ensures, c.as_slice-2.ensures) at c.put_all.ensures
