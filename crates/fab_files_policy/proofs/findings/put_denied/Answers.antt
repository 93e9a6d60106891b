use Rattle.fab_files_policy.specs.Findings.{denied_words}
use Rattle.fab_files_policy.proofs.findings.put_denied.Goals as goal

pub returns : goal.returns
unfolding denied_words
returns g c = rw (c.as_slice.ensures, c.as_bytes.ensures.value, c.format.ensures.text, c.as_slice-2.ensures, c.as_bytes-2.ensures.text, c.as_slice-3.ensures, c.as_bytes-3.ensures.value, c.as_slice-4.ensures) at c.put_all.ensures
