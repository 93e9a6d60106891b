-- A command as a policy judges it.
use Rattle.std.specs.Prelude.{ℕ, ◌≡◌, ◌↔◌, List, Contains, Option, None, Some}
use Rattle.std.specs.FinMap as map
use Rattle.fab_reach_base.specs.fab_names.declared.fabric.Fabric.{Fabric}
use Rattle.fab_policy.specs.Verdicts.{IsVerdict}
use Rattle.fab_policy.specs.declared.act.Act.{Act}
use Rattle.fab_policy.specs.declared.act.Approval.{Approval}
use Rattle.fab_policy.specs.declared.act.PlanApprovals.{PlanApprovals}
use Rattle.fab_policy.specs.declared.act.Verdict.{Verdict}
use Rattle.fab_policy.specs.fab_policy_base.Policies.{PolicyRows}
use Rattle.fab_world.specs.PlanRecords.{PlanRecord}
use Rattle.fab_world.specs.Worlds.{WorldRows}
use Rattle.fab_desk_base.specs.Commands.{action_of, plan_of, IsPlan, NamesFabric}
use Rattle.fab_desk_base.specs.Touching.{Touches}
use Rattle.fab_desk_base.specs.declared.command.Command.{Command}
use Rattle.fab_desk_base.specs.declared.command.Command.TheVariants.{Stage}

-- the approval is one under the plan's name
abbrev pub IsApprovalOf : WorldRows → List ℕ → Approval → Type 0
IsApprovalOf w n x = (p : PlanRecord) × IsPlan w n p × (map.get p.approvals x.caller ≡ Some x.revision)

-- just the approvals under the plan's name, with this author
pub record AreApprovals (w : WorldRows) (n author : List ℕ) (a : PlanApprovals) : Type 0 where
  pub author_is : a.author ≡ author
  pub approvals : (x : Approval) → Contains a.approvals.now x ↔ IsApprovalOf w n x

-- the approvals of the plan that a command is about, with its author
abbrev pub AreOfPlan : WorldRows → Option (List ℕ) → Option PlanApprovals → Type 0
AreOfPlan w None None = Unit {0}
AreOfPlan w None (Some a) = ⊥
AreOfPlan w (Some n) None = ⊥
AreOfPlan w (Some n) (Some a) = (p : PlanRecord) × IsPlan w n p × AreApprovals w n p.author a

-- the approvals of the plan that is staged: its author is the caller
abbrev pub AreOfStaged : WorldRows → List ℕ → List ℕ → Option PlanApprovals → Type 0
AreOfStaged w caller n None = ⊥
AreOfStaged w caller n (Some a) = AreApprovals w n caller a

-- what was said of the command's plan, where it has one
abbrev pub AreOfCommand : {A : Type 0} → WorldRows → List ℕ → Command A → Option PlanApprovals → Type 0
AreOfCommand w caller (Stage n steps) o = AreOfStaged w caller n o
AreOfCommand w caller c o = AreOfPlan w (plan_of c) o

-- the act of the caller at that place, who has this name, by the command at the moment
pub record IsAct {A : Type 0} (w : WorldRows) (id : ℕ) (caller : List ℕ) (moment : ℕ) (c : Command A) (a : Act) : Type 0 where
  pub caller_is : a.caller ≡ id
  pub action : action_of c ≡ Some a.action
  pub fabrics : (f : Fabric) → Contains a.fabrics.now f ↔ NamesFabric w c f
  pub touched : (t : List ℕ) → Contains a.touched.now t ↔ Touches w caller c t
  pub moment_is : a.moment ≡ moment
  pub plan : AreOfCommand w caller c a.plan
  pub revision : a.revision ≡ w.revision

-- the verdict of the policy on the command
abbrev pub IsJudged : {A : Type 0} → PolicyRows → WorldRows → ℕ → List ℕ → ℕ → Command A → Verdict → Type 0
IsJudged p w id caller moment c v = (a : Act) × IsAct w id caller moment c a × IsVerdict p a v
