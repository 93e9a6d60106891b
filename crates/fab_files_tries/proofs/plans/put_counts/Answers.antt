use Rattle.fab_files_tries.specs.Plans.{counts_text}
use Rattle.fab_files_tries.proofs.plans.put_counts.Goals as goal

pub returns : goal.returns
unfolding counts_text
returns g c = rw (c.as_slice.ensures, c.as_bytes.ensures.value, c.format.ensures.text, c.as_slice-2.ensures, c.as_bytes-2.ensures.value, c.format-2.ensures.text, c.as_slice-3.ensures) at c.put_all.ensures
