use Rattle.std.proofs.Common.{append-nil}
use Rattle.fab_files_tries.specs.Rows.{active_set_text, name_or_none}
use Rattle.fab_files_tries.proofs.rows.put_active.Goals as goal

pub returns : goal.returns
unfolding active_set_text
returns g c = rw (c.as_slice.ensures, c.as_bytes.ensures.value, c.as_str.ensures, c.as_slice-2.ensures, c.name_or_none.ensures, append-nil (name_or_none c.args.name)) at c.put_pieces.ensures
