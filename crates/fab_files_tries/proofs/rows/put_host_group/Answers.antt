use Rattle.std.proofs.Common.{append-nil}
use Rattle.fab_files_tries.specs.Rows.{host_group_text}
use Rattle.fab_files_tries.proofs.rows.put_host_group.Goals as goal

pub returns : goal.returns
unfolding host_group_text
returns g c = rw (c.as_slice.ensures, c.as_bytes.ensures.text, c.as_slice-2.ensures, c.as_bytes-2.ensures.text, append-nil c.args.row.now.tenant) at c.put_pieces.ensures
