use Rattle.std.proofs.Common.{append-nil}
use Rattle.fab_program_checks.specs.Notes.{rule_words}
use Rattle.fab_program_checks.proofs.notes.put_rule.Goals as goal

pub returns : goal.returns
unfolding rule_words
returns g c = rw (c.as_slice.ensures, c.as_bytes.ensures.value, c.format.ensures.text, c.as_slice-2.ensures, c.as_bytes-2.ensures.text, c.as_slice-3.ensures, c.as_bytes-3.ensures.value, append-nil c.args.said.now) at c.put_all.ensures
