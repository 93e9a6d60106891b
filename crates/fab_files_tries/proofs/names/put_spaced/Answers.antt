use Rattle.std.proofs.Common.{append-nil}
use Rattle.fab_files_tries.specs.Names.{spaced}
use Rattle.fab_files_tries.proofs.names.put_spaced.Goals as goal

pub returns : goal.returns
unfolding spaced
returns g c = rw (c.as_slice.ensures, c.as_bytes.ensures.text, append-nil c.args.name.now) at c.put_all.ensures
