use Rattle.fab_files_policy.specs.Findings.{named_words}
use Rattle.fab_files_policy.proofs.findings.put_named.Goals as goal

pub returns : goal.returns
unfolding named_words
returns g c = rw (c.as_bytes.ensures.value, c.as_bytes-2.ensures.text, c.as_slice.ensures) at c.put_all.ensures
