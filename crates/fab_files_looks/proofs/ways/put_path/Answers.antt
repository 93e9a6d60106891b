use Rattle.fab_files_looks.specs.Ways.{path_line}
use Rattle.fab_files_looks.proofs.ways.put_path.Goals as goal

pub returns : goal.returns
unfolding path_line
returns g c = rw (c.as_slice.ensures, c.as_bytes.ensures.value, c.as_str.ensures, c.as_slice-2.ensures, c.letters.ensures, c.as_slice-3.ensures, c.letters-2.ensures, c.as_slice-4.ensures, c.as_bytes-2.ensures.value, c.format.ensures.text, c.as_slice-5.ensures) at c.put_all.ensures
