-- The act that is made of what was found of a command.
use Rattle.std.specs.Prelude.{ℕ, ◌≡◌, List, Option, None, Some}
use Rattle.fab_reach_base.specs.fab_names.declared.fabric.Fabric.{Fabric}
use Rattle.fab_policy.specs.Verdicts.{IsVerdict}
use Rattle.fab_policy.specs.declared.act.Act.{Act}
use Rattle.fab_policy.specs.declared.act.Approval.{Approval}
use Rattle.fab_policy.specs.declared.act.PlanApprovals.{PlanApprovals}
use Rattle.fab_policy.specs.declared.act.Verdict.{Verdict}
use Rattle.fab_policy.specs.fab_policy_base.Policies.{PolicyRows}
use Rattle.fab_policy.specs.fab_policy_base.declared.policy.Action.{Action}

-- the author and the approvals, where there is an author
abbrev pub IsSaid : Option (List ℕ) → List Approval → Option PlanApprovals → Type 0
IsSaid None approvals None = Unit {0}
IsSaid None approvals (Some a) = ⊥
IsSaid (Some author) approvals None = ⊥
IsSaid (Some author) approvals (Some a) = (a.author ≡ author) × (a.approvals.now ≡ approvals)

-- the act has these parts
pub record IsMadeOf (id : ℕ) (action : Action) (fabrics : List Fabric) (touched : List (List ℕ)) (moment : ℕ) (author : Option (List ℕ)) (approvals : List Approval) (revision : ℕ) (a : Act) : Type 0 where
  pub caller_is : a.caller ≡ id
  pub action_is : a.action ≡ action
  pub fabrics_are : a.fabrics.now ≡ fabrics
  pub touched_are : a.touched.now ≡ touched
  pub moment_is : a.moment ≡ moment
  pub plan : IsSaid author approvals a.plan
  pub revision_is : a.revision ≡ revision

-- the verdict of the policy on the act with these parts
abbrev pub IsDecided : PolicyRows → ℕ → Action → List Fabric → List (List ℕ) → ℕ → Option (List ℕ) → List Approval → ℕ → Verdict → Type 0
IsDecided p id action fabrics touched moment author approvals revision v = (a : Act) × IsMadeOf id action fabrics touched moment author approvals revision a × IsVerdict p a v
