-- What contracts see of the row of a plan.
use Rattle.std.specs.Prelude.{ℕ, List}
use Rattle.fab_store_rows.specs.declared.record_row.PlanState.{PlanState}

-- its name, who staged it, the printed form of its steps, its state, and its place among the
-- activations in force, 1 for the oldest, or 0
pub record PlanEntry : Type 0 where
  pub name : List ℕ
  pub author : List ℕ
  pub text : List ℕ
  pub state : PlanState
  pub position : ℕ
