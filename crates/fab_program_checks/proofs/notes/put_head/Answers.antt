use Rattle.fab_program_checks.specs.Notes.{warning_head}
use Rattle.fab_program_checks.proofs.notes.put_head.Goals as goal

pub returns : goal.returns
unfolding warning_head
returns g c = rw (c.as_bytes.ensures.value, c.as_slice.ensures) at c.put_all.ensures
