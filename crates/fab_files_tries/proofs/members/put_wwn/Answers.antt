use Rattle.fab_files_tries.proofs.members.put_wwn.Goals as goal

pub returns : goal.returns
returns g c = rw c.letters-letters.ensures at c.put_worded.ensures
