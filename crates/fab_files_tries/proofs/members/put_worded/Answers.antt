use Rattle.std.proofs.Common.{append-nil}
use Rattle.fab_files_tries.specs.Rows.{worded_row}
use Rattle.fab_files_tries.proofs.members.put_worded.Goals as goal

pub returns : goal.returns
unfolding worded_row
returns g c = rw (c.as_bytes.ensures.value, c.as_bytes-2.ensures.value, c.as_bytes-3.ensures.value, c.as_bytes-4.ensures.text, c.as_slice.ensures, c.as_bytes-5.ensures.value, append-nil c.args.text.now) at c.put_pieces.ensures
