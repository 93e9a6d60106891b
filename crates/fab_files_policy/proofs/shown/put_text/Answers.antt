use Rattle.fab_files_policy.specs.Shown.{text_line}
use Rattle.fab_files_policy.proofs.shown.put_text.Goals as goal

pub returns : goal.returns
unfolding text_line
returns g c = rw (c.as_bytes.ensures.value, c.as_slice.ensures, c.as_bytes-2.ensures.value, c.as_slice-2.ensures) at c.put_all.ensures
