use Rattle.fab_files_tries.specs.Names.{count_text}
use Rattle.fab_files_tries.proofs.names.put_count.Goals as goal

pub returns : goal.returns
unfolding count_text
returns g c = rw (c.as_slice.ensures, c.as_bytes.ensures.value, c.format.ensures.text, c.as_bytes-2.ensures.value, c.hosts_word.ensures, c.as_slice-2.ensures) at c.put_all.ensures
