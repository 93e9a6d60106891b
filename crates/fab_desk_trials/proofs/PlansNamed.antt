-- The plan that a command names, its steps and its approvals.
use Rattle.std.proofs.Common.{◌≡◌, ◌↔◌, ℕ, List, [], Contains, None, Some, Vec, refl, sym, ap, ◌∙◌, subst, arith}
use Rattle.std.specs.FinMap as map
use Rattle.fab_reach_base.proofs.Same.{same_some}
use Rattle.fab_world.specs.fab_plans_base.Steps.{PlanStep}
use Rattle.fab_world.specs.PlanRecords.{PlanRecord}
use Rattle.fab_world.specs.Worlds.{WorldRows}
use Rattle.fab_desk_base.specs.Commands.{plan_of, PlanHasStep, HasStep}
use Rattle.fab_desk_trials.specs.Named.{AreKept, AreSteps}
use Rattle.fab_desk_base.specs.declared.command.Command.{Command}
use Rattle.fab_desk_base.specs.declared.command.Command.TheVariants.{Import, PutHolder, PutVolume, DropHolder, DropVolume, Stage, Withdraw, Approve, DryRun, Activate, Rollback, Show}

-- the steps of the plan that is there
pub steps_found : (w : WorldRows) (n : List ℕ) (p : PlanRecord) (steps : List PlanStep) → map.get w.plans n ≡ Some p → steps ≡ p.steps → (s : PlanStep) → Contains steps s ↔ PlanHasStep w (Some n) s
steps_found w n p steps there is s = (
  λ h. (p, there, subst (λ xs. Contains xs s) is h),
  λ h. subst (λ xs. Contains xs s) (ap (λ (q : PlanRecord). q.steps) (same_some h.1 there) ∙ sym is) h.2,
)

-- a step of the plan that the command is about
step_to : {A : Type 0} (w : WorldRows) (c : Command A) (s : PlanStep) → PlanHasStep w (plan_of c) s → HasStep w c s
step_to w (Import f rows) s h = h
step_to w (PutHolder k n t ports) s h = h
step_to w (PutVolume n v) s h = h
step_to w (DropHolder k n) s h = h
step_to w (DropVolume n) s h = h
step_to w (Stage n steps) s h = absurd h
step_to w (Withdraw n) s h = h
step_to w (Approve n) s h = h
step_to w (DryRun n) s h = h
step_to w (Activate n) s h = h
step_to w (Rollback n) s h = h
step_to w (Show q) s h = h

step_from : {A : Type 0} (w : WorldRows) (c : Command A) (s : PlanStep) → ((n : List ℕ) (steps : Vec PlanStep A) → c ≡ Stage n steps → ⊥) → HasStep w c s → PlanHasStep w (plan_of c) s
step_from w (Import f rows) s not h = h
step_from w (PutHolder k n t ports) s not h = h
step_from w (PutVolume n v) s not h = h
step_from w (DropHolder k n) s not h = h
step_from w (DropVolume n) s not h = h
step_from w (Stage n steps) s not h = absurd (not n steps refl)
step_from w (Withdraw n) s not h = h
step_from w (Approve n) s not h = h
step_from w (DryRun n) s not h = h
step_from w (Activate n) s not h = h
step_from w (Rollback n) s not h = h
step_from w (Show q) s not h = h

-- no steps are those of no plan
pub none_kept : {A : Type 0} (w : WorldRows) (c : Command A) → plan_of c ≡ None → AreKept w c []
none_kept w c is s = (λ h. absurd (omega (arith, h.1)), λ h. absurd (subst (λ o. PlanHasStep w o s) is h))

-- what stages no plan has the steps that are kept
pub kept_steps : {A : Type 0} (w : WorldRows) (c : Command A) (steps : List PlanStep) → ((n : List ℕ) (own : Vec PlanStep A) → c ≡ Stage n own → ⊥) → AreKept w c steps → AreSteps w c steps
kept_steps w c steps not kept s = (λ h. step_to w c s ((kept s).0 h), λ h. (kept s).1 (step_from w c s not h))
