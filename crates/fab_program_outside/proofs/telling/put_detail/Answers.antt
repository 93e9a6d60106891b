use Rattle.fab_program_outside.specs.Faults.{detail_line}
use Rattle.fab_program_outside.proofs.telling.put_detail.Goals as goal

pub returns : goal.returns
unfolding detail_line
returns g c = rw (
  c.as_slice.ensures,
  c.as_bytes.ensures.value,
  c.as_slice-2.ensures,
  c.as_bytes-2.ensures.value,
  c.as_slice-3.ensures,
) at c.put_all.ensures
