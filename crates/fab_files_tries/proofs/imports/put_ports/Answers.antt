use Rattle.fab_files_tries.specs.Imports.{ports_line}
use Rattle.fab_files_tries.proofs.imports.put_ports.Goals as goal

pub returns : goal.returns
unfolding ports_line
returns g c = rw (c.as_slice.ensures, c.as_bytes.ensures.value, c.format.ensures.text, c.as_slice-2.ensures, c.as_bytes-2.ensures.value, c.format-2.ensures.text, c.as_slice-3.ensures.value, c.as_slice-4.ensures, c.as_bytes-3.ensures.value, c.format-3.ensures.text, c.as_slice-5.ensures.value, c.as_slice-6.ensures, c.as_bytes-4.ensures.value, c.format-4.ensures.text, c.as_slice-7.ensures.value, c.as_slice-8.ensures) at c.put_all.ensures
