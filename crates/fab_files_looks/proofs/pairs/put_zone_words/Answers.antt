use Rattle.fab_files_looks.specs.Pairs.{zone_words}
use Rattle.fab_files_looks.proofs.pairs.put_zone_words.Goals as goal

pub returns : goal.returns
unfolding zone_words
returns g c = rw (c.as_slice.ensures, c.as_bytes.ensures.text, c.as_slice-2.ensures) at c.put_all.ensures
