use Rattle.fab_desk_rows.proofs.parts.same_inventory.Goals as goal

pub returns : goal.returns
returns g c = λ v. record { takes = c.no_lists.ensures v; adds = c.no_lists-2.ensures v }
