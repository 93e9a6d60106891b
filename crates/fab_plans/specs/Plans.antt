-- What a plan has, in whatever state it is.
use Rattle.std.specs.Prelude.{ℕ, ◌≡◌, List}
use Rattle.std.specs.FinMap as map
use Rattle.fab_reach_base.specs.fab_names.Orders.{name_cmp}
use Rattle.fab_plans_text.specs.fab_plans_base.Steps.{PlanStep}
use Rattle.fab_plans.specs.declared.plan.Plan.{Plan}
use Rattle.fab_plans.specs.declared.plan.ApprovalFault.{ApprovalFault}
use Rattle.fab_plans.specs.declared.plan.ApprovalFault.TheVariants.{OwnPlan, Memory}

-- who staged it, its steps in their order, and at which revision who approved it, the last time
pub record PlanRows : Type 0 where
  pub author : List ℕ
  pub steps : List PlanStep
  pub approvals : map.FinMap name_cmp ℕ

-- what a plan shows
abbrev pub seen_plan : {A : Type 0} → Plan A → PlanRows
seen_plan p = record { author = p.author; steps = p.text; approvals = map.from_entries p.approvals.entries }

-- a plan that nobody approved yet
abbrev pub new_plan : List ℕ → List PlanStep → PlanRows
new_plan author steps = record { author = author; steps = steps; approvals = map.empty }

-- with the approval of a caller at a revision, in place of an earlier one of that caller
abbrev pub approved_by : List ℕ → ℕ → PlanRows → PlanRows
approved_by caller revision plan = record plan { approvals = map.insert plan.approvals caller revision }

-- why an approval is refused: the caller is the author
abbrev pub IsApprovalFault : PlanRows → List ℕ → ApprovalFault → Type 0
IsApprovalFault plan caller OwnPlan = caller ≡ plan.author
IsApprovalFault plan caller Memory = Unit {0}
