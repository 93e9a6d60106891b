use Rattle.fab_files_policy.specs.Shown.{item_line}
use Rattle.fab_files_policy.proofs.shown.put_item.Goals as goal

pub returns : goal.returns
unfolding item_line
returns g c = rw (c.as_slice.ensures, c.as_slice-2.ensures) at c.put_all.ensures
