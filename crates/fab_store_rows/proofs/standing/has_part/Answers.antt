use Rattle.fab_store_rows.proofs.standing.has_part.Goals as goal

pub returns-in-Host : goal.returns-in-Host
returns-in-Host g c = rw c.in-Host.is c.has_host.ensures

pub returns-in-Storage : goal.returns-in-Storage
returns-in-Storage g c = rw c.in-Storage.is c.has_part_of.ensures
