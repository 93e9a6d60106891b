use Rattle.fab_files_tries.specs.Imports.{refused_line}
use Rattle.fab_files_tries.proofs.imports.put_refused.Goals as goal

pub returns : goal.returns
unfolding refused_line
returns g c = rw (c.as_slice.ensures, c.as_bytes.ensures.value, c.format.ensures.text, c.as_slice-2.ensures, c.as_bytes-2.ensures.value, c.format-2.ensures.text, c.as_slice-3.ensures) at c.put_all.ensures
