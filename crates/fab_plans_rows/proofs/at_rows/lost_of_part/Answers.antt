use Rattle.fab_plans_rows.proofs.at_rows.lost_of_part.Goals as goal

pub returns-in-Storage : goal.returns-in-Storage
returns-in-Storage g c = rw c.in-Storage.is c.lost_part_at.ensures
