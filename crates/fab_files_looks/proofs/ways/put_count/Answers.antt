use Rattle.fab_files_looks.specs.Ways.{yes_line}
use Rattle.fab_files_looks.proofs.ways.put_count.Goals as goal

pub returns : goal.returns
unfolding yes_line
returns g c =
    rw (c.as_slice.ensures, c.as_bytes.ensures.value, c.format.ensures.text, c.as_bytes-2.ensures.value, c.paths_word.ensures, c.as_bytes-3.ensures.value, c.format-2.ensures.text, c.count_at.ensures, c.as_slice-2.ensures, c.as_bytes-4.ensures.value, c.format-3.ensures.text, c.count_at-2.ensures, c.as_slice-3.ensures) at c.put_all.ensures
