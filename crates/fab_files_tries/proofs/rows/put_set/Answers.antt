use Rattle.std.proofs.Common.{append-nil}
use Rattle.fab_files_tries.specs.Rows.{set_text}
use Rattle.fab_files_tries.proofs.rows.put_set.Goals as goal

pub returns : goal.returns
unfolding set_text
returns g c = rw (c.as_slice.ensures, c.as_bytes.ensures.value, c.as_slice-2.ensures, c.as_bytes-2.ensures.text, c.as_slice-3.ensures, c.as_bytes-3.ensures.text, append-nil c.args.zone.now) at c.put_pieces.ensures
