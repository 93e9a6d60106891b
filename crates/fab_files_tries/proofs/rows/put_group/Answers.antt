use Rattle.std.proofs.Common.{append-nil}
use Rattle.fab_files_tries.specs.Rows.{group_text}
use Rattle.fab_files_tries.proofs.rows.put_group.Goals as goal

pub returns : goal.returns
unfolding group_text
returns g c = rw (c.as_slice.ensures, c.as_bytes.ensures.text, c.as_slice-2.ensures, c.as_bytes-2.ensures.text, c.as_slice-3.ensures, c.as_bytes-3.ensures.text, c.as_slice-4.ensures, c.as_bytes-4.ensures.value, append-nil c.args.exposed.now) at c.put_pieces.ensures
