-- The words of the states of plans.
use Rattle.std.specs.Prelude.{ℕ, List, codes}
use Rattle.fab_store_rows.specs.declared.record_row.PlanState.{PlanState}
use Rattle.fab_store_rows.specs.declared.record_row.PlanState.TheVariants.{Staged, Active, RolledBack, Withdrawn}

-- the word of a state
abbrev pub state_text : PlanState → List ℕ
state_text Staged = codes "staged"
state_text Active = codes "active"
state_text RolledBack = codes "rolled-back"
state_text Withdrawn = codes "withdrawn"
