use Rattle.std.proofs.Common.{append-nil}
use Rattle.fab_names.specs.WorldWideNames.{wwn_text}
use Rattle.fab_files_looks.specs.Pairs.{ends_text}
use Rattle.fab_files_looks.proofs.pairs.put_ends.Goals as goal

pub returns : goal.returns
unfolding ends_text
returns g c = rw (c.as_slice.ensures, c.as_bytes.ensures.value, c.as_str.ensures, c.as_slice-2.ensures, c.letters.ensures, c.as_slice-3.ensures, c.letters-2.ensures, append-nil (wwn_text c.args.ends.target)) at c.put_all.ensures
