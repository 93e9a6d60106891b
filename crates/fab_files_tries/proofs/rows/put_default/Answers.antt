use Rattle.std.proofs.Common.{append-nil}
use Rattle.fab_files_tries.specs.Rows.{default_text, permit_word}
use Rattle.fab_files_tries.proofs.rows.put_default.Goals as goal

pub returns : goal.returns
unfolding default_text
returns g c = rw (c.as_slice.ensures, c.as_bytes.ensures.value, c.as_str.ensures, c.as_slice-2.ensures, c.as_bytes-2.ensures.value, c.permit_word.ensures, append-nil (permit_word c.args.permit)) at c.put_pieces.ensures
