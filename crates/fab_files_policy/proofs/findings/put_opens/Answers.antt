use Rattle.fab_files_policy.specs.Findings.{opens_words}
use Rattle.fab_files_policy.proofs.findings.put_opens.Goals as goal

pub returns : goal.returns
unfolding opens_words
returns g c = rw (c.as_slice.ensures, c.as_bytes.ensures.value, c.format.ensures.text, c.as_slice-2.ensures) at c.put_all.ensures
