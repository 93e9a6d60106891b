-- The plan that a command names, and its approvals as a list.
use Rattle.std.specs.Prelude.{ℕ, ◌≡◌, ◌↔◌, List, Contains, Option, None, Some}
use Rattle.std.specs.FinMap as map
use Rattle.std.specs.Option.{option_map}
use Rattle.fab_world.specs.fab_plans_base.Steps.{PlanStep}
use Rattle.fab_policy.specs.declared.act.Approval.{Approval}
use Rattle.fab_world.specs.PlanRecords.{PlanRecord}
use Rattle.fab_world.specs.Worlds.{WorldRows}
use Rattle.fab_desk_base.specs.Acts.{IsApprovalOf}
use Rattle.fab_desk_base.specs.Commands.{plan_of, PlanHasStep, HasStep}
use Rattle.fab_desk_base.specs.declared.command.Command.{Command}
use Rattle.fab_desk_base.specs.declared.command.Command.TheVariants.{Stage}

-- the plan that the command is about, or that it stages
abbrev pub plan_named : {A : Type 0} → Command A → Option (List ℕ)
plan_named (Stage n steps) = Some n
plan_named c = plan_of c

-- just the steps of the plan that the command is about
abbrev pub AreKept : {A : Type 0} → WorldRows → Command A → List PlanStep → Type 0
AreKept w c steps = (s : PlanStep) → Contains steps s ↔ PlanHasStep w (plan_of c) s

-- just the steps of the command's plan
abbrev pub AreSteps : {A : Type 0} → WorldRows → Command A → List PlanStep → Type 0
AreSteps w c steps = (s : PlanStep) → Contains steps s ↔ HasStep w c s

-- the approval of a caller at a revision
abbrev pub approval_of : List ℕ × ℕ → Approval
approval_of e = record { caller = e.0; revision = e.1 }

-- the author of the plan of this name, if there is one
abbrev pub author_at : WorldRows → List ℕ → Option (List ℕ)
author_at w n = option_map (λ (p : PlanRecord). p.author) (map.get w.plans n)

-- the author of the plan of this name, if there is a name
abbrev pub author_named : WorldRows → Option (List ℕ) → Option (List ℕ)
author_named w None = None
author_named w (Some n) = author_at w n

-- the author of the command's plan: of one that it stages the caller
abbrev pub plan_author : {A : Type 0} → WorldRows → List ℕ → Command A → Option (List ℕ)
plan_author w caller (Stage n steps) = Some caller
plan_author w caller c = author_named w (plan_of c)

-- just the approvals under the name, where there is one
abbrev pub AreListed : WorldRows → Option (List ℕ) → List Approval → Type 0
AreListed w plan approvals = (n : List ℕ) → plan ≡ Some n → (x : Approval) → Contains approvals x ↔ IsApprovalOf w n x
