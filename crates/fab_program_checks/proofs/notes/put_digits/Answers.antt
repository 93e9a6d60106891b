use Rattle.std.proofs.Common.{append-nil}
use Rattle.fab_program_checks.specs.Notes.{mode_words, octal}
use Rattle.fab_program_checks.proofs.notes.put_digits.Goals as goal

pub returns : goal.returns
unfolding mode_words
returns g c = rw (c.as_slice.ensures, c.as_slice-2.ensures, c.octal-digits.ensures, append-nil (octal c.args.mode)) at c.put_all.ensures
