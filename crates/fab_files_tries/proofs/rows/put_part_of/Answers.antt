use Rattle.std.proofs.Common.{append-nil}
use Rattle.fab_files_tries.specs.Rows.{part_of_text}
use Rattle.fab_files_tries.proofs.rows.put_part_of.Goals as goal

pub returns : goal.returns
unfolding part_of_text
returns g c = rw (c.as_slice.ensures, c.as_bytes.ensures.text, c.as_bytes-2.ensures.value, append-nil c.args.part.now) at c.put_pieces.ensures
