use Rattle.fab_files_looks.specs.Pairs.{many_text}
use Rattle.fab_files_looks.proofs.pairs.put_many.Goals as goal

pub returns : goal.returns
unfolding many_text
returns g c = rw (c.as_bytes.ensures.value, c.format.ensures.text, c.as_slice.ensures) at c.put_all.ensures
