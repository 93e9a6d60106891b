use Rattle.std.proofs.Common.{append-nil}
use Rattle.fab_files_looks.specs.Pairs.{in_text}
use Rattle.fab_files_looks.proofs.pairs.put_in.Goals as goal

pub returns : goal.returns
unfolding in_text
returns g c = rw (c.as_slice.ensures, c.as_bytes.ensures.text, append-nil c.args.zone.now) at c.put_all.ensures
