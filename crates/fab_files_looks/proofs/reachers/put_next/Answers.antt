use Rattle.std.proofs.Common.{append-nil}
use Rattle.fab_files_looks.specs.Reachers.{next_text}
use Rattle.fab_files_looks.proofs.reachers.put_next.Goals as goal

pub returns : goal.returns
unfolding next_text
returns g c = rw (c.as_slice.ensures, c.as_bytes.ensures.text, append-nil c.args.name.now) at c.put_all.ensures
