use Rattle.fab_plans_rows.proofs.outcome.outcome_of.Goals as goal

pub returns-in-Ok-change_by-clause-ok : goal.returns-in-Ok-change_by-clause-ok
returns-in-Ok-change_by-clause-ok g c = record { done = c.in-Ok.ensures.done; no_clash = c.in-Ok-change_by.ensures.clear }
