use Rattle.fab_files_tries.specs.Rows.{member_row, worded_row}
use Rattle.fab_files_tries.proofs.members.put_address.Goals as goal

pub returns : goal.returns
unfolding member_row worded_row
returns g c = rw c.letters-letters.ensures.value at c.put_worded.ensures
