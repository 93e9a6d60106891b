use Rattle.fab_store_edits.proofs.edits.put_part_row.Goals as goal

pub returns-in-Storage-clause-put : goal.returns-in-Storage-clause-put
returns-in-Storage-clause-put g c = rw c.in-Storage.is c.put_storage_row.ensures.put

pub returns-in-Storage-clause-refused : goal.returns-in-Storage-clause-refused
returns-in-Storage-clause-refused g c = rw c.in-Storage.is c.put_storage_row.ensures.refused
