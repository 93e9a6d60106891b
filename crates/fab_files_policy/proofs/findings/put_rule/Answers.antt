use Rattle.std.proofs.Common.{append-nil}
use Rattle.fab_files_policy.specs.Findings.{rule_words}
use Rattle.fab_files_policy.proofs.findings.put_rule.Goals as goal

pub returns : goal.returns
unfolding rule_words
returns g c = rw (c.as_slice.ensures, c.as_bytes.ensures.value, c.format.ensures.text, c.as_slice-2.ensures, c.as_bytes-2.ensures.text, append-nil c.args.name.now) at c.put_all.ensures
