use Rattle.fab_files_policy.specs.Shown.{count_line}
use Rattle.fab_files_policy.proofs.shown.put_count.Goals as goal

pub returns : goal.returns
unfolding count_line
returns g c = rw (c.as_slice.ensures, c.as_bytes.ensures.value, c.format.ensures.text, c.as_slice-2.ensures) at c.put_all.ensures
