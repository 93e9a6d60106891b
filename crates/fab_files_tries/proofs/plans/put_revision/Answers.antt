use Rattle.fab_files_tries.specs.Plans.{revision_line}
use Rattle.fab_files_tries.proofs.plans.put_revision.Goals as goal

pub returns : goal.returns
unfolding revision_line
returns g c = rw (c.as_slice.ensures, c.as_bytes.ensures.value, c.format.ensures.text, c.as_slice-2.ensures) at c.put_all.ensures
