use Rattle.fab_files_looks.proofs.ways.put_missing.Goals as goal

pub returns : goal.returns
returns g c = rw c.link_word.ensures at c.put.ensures.text
