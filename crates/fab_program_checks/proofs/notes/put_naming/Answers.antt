use Rattle.std.proofs.Common.{append-nil}
use Rattle.fab_program_checks.specs.Notes.{naming_words}
use Rattle.fab_program_checks.proofs.notes.put_naming.Goals as goal

pub returns : goal.returns
unfolding naming_words
returns g c = rw (c.as_bytes.ensures.value, append-nil c.args.said.now) at c.put_all.ensures
