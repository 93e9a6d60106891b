use Rattle.std.proofs.Common.{append-nil, decimal}
use Rattle.fab_files_policy.specs.Findings.{quorum_words}
use Rattle.fab_files_policy.proofs.findings.put_count.Goals as goal

pub returns : goal.returns
unfolding quorum_words
returns g c = rw (c.as_slice.ensures, c.as_bytes.ensures.value, c.format.ensures.text, c.as_slice-2.ensures, c.as_bytes-2.ensures.value, c.format-2.ensures.text, append-nil (decimal c.args.asked)) at c.put_all.ensures
