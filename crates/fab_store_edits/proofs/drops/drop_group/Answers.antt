use Rattle.fab_store_edits.proofs.drops.drop_group.Goals as goal

pub returns-in-Host-clause-held : goal.returns-in-Host-clause-held
returns-in-Host-clause-held g c = rw c.in-Host.is c.drop_hosts.ensures.held

pub returns-in-Storage-clause-held : goal.returns-in-Storage-clause-held
returns-in-Storage-clause-held g c = rw c.in-Storage.is c.drop_storage.ensures.held
