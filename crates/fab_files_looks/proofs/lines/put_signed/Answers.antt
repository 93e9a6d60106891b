use Rattle.std.proofs.Common.{append-nil, decimal}
use Rattle.fab_files_looks.specs.Lines.{signed_words}
use Rattle.fab_files_looks.proofs.lines.put_signed.Goals as goal

pub returns : goal.returns
unfolding signed_words
returns g c = rw (c.as_slice.ensures, c.as_bytes.ensures.text, c.as_slice-2.ensures, c.as_bytes-2.ensures.value, c.format.ensures.text, append-nil (decimal c.args.approval.now.revision)) at c.put_all.ensures
