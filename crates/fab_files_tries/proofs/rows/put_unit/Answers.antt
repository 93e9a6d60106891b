use Rattle.std.proofs.Common.{append-nil}
use Rattle.fab_files_tries.specs.Rows.{unit_text}
use Rattle.fab_files_tries.proofs.rows.put_unit.Goals as goal

pub returns : goal.returns
unfolding unit_text
returns g c = rw (c.as_slice.ensures, c.as_bytes.ensures.text, c.as_slice-2.ensures, c.as_bytes-2.ensures.value, c.format.ensures.text, c.as_slice-3.ensures, c.as_bytes-3.ensures.text, append-nil c.args.volume.now) at c.put_pieces.ensures
