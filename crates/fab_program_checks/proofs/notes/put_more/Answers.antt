use Rattle.std.proofs.Common.{append-nil, decimal}
use Rattle.fab_program_checks.specs.Notes.{more_words}
use Rattle.fab_program_checks.proofs.notes.put_more.Goals as goal

pub returns : goal.returns
unfolding more_words
returns g c = rw (c.as_bytes.ensures.value, c.format.ensures.text, c.as_slice.ensures, c.as_bytes-2.ensures.value, c.format-2.ensures.text, append-nil (decimal c.args.there)) at c.put_all.ensures
