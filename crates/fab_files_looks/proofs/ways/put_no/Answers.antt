use Rattle.fab_files_looks.specs.Ways.{no_line}
use Rattle.fab_files_looks.proofs.ways.put_no.Goals as goal

pub returns : goal.returns
unfolding no_line
returns g c = rw (c.as_slice.ensures, c.as_bytes.ensures.value, c.missing_words.ensures, c.as_slice-2.ensures) at c.put_all.ensures
