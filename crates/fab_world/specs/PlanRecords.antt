-- What contracts see of a plan that a world keeps.
use Rattle.std.specs.Prelude.{ℕ, List}
use Rattle.std.specs.FinMap as map
use Rattle.fab_reach_base.specs.fab_names.Orders.{name_cmp}
use Rattle.fab_plans.specs.fab_plans_base.Steps.{PlanStep}
use Rattle.fab_store_load.specs.fab_store_rows.declared.config_row.ConfigRow.{ConfigRow}

-- where a plan stands; of an active one the rows that its activation took away, and those that it
-- added
pub data Standing : Type 0 where
  staged : Standing
  active : List ConfigRow → List ConfigRow → Standing
  rolled_back : Standing
  withdrawn : Standing

-- who staged it, its steps in their order, at which revision who approved it the last time, and
-- where it stands
pub record PlanRecord : Type 0 where
  pub author : List ℕ
  pub steps : List PlanStep
  pub approvals : map.FinMap name_cmp ℕ
  pub standing : Standing
