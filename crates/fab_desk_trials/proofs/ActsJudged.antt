-- The act that is made of what was found of a command is its act.
use Rattle.std.proofs.Common.{◌≡◌, ◌↔◌, ℕ, List, Contains, Option, None, Some, refl, sym, ap, ◌∙◌, subst}
use Rattle.std.specs.Option.{option_map}
use Rattle.std.specs.FinMap as map
use Rattle.fab_reach_base.specs.fab_names.declared.fabric.Fabric.{Fabric}
use Rattle.fab_policy.specs.declared.act.Act.{Act}
use Rattle.fab_policy.specs.declared.act.Approval.{Approval}
use Rattle.fab_policy.specs.declared.act.PlanApprovals.{PlanApprovals}
use Rattle.fab_policy.specs.declared.act.Verdict.{Verdict}
use Rattle.fab_policy.specs.fab_policy_base.Policies.{PolicyRows}
use Rattle.fab_policy.specs.fab_policy_base.declared.policy.Action.{Action}
use Rattle.fab_world.specs.PlanRecords.{PlanRecord}
use Rattle.fab_world.specs.Worlds.{WorldRows}
use Rattle.fab_desk_base.specs.Acts.{IsApprovalOf, AreApprovals, AreOfPlan, AreOfStaged, AreOfCommand, IsAct, IsJudged}
use Rattle.fab_desk_base.specs.Answers.{HasPlan}
use Rattle.fab_desk_base.specs.Commands.{action_of, plan_of, NamesFabric}
use Rattle.fab_desk_base.specs.Touching.{Touches}
use Rattle.fab_desk_base.specs.declared.command.Command.{Command}
use Rattle.fab_desk_base.specs.declared.command.Command.TheVariants.{Import, PutHolder, PutVolume, DropHolder, DropVolume, Stage, Withdraw, Approve, DryRun, Activate, Rollback, Show}
use Rattle.fab_desk_trials.specs.Made.{IsSaid, IsMadeOf, IsDecided}
use Rattle.fab_desk_trials.specs.Named.{plan_named, author_named, plan_author, AreListed}

-- the plan that is named is there
abbrev IsThere : WorldRows → Option (List ℕ) → Type 0
IsThere w plan = (n : List ℕ) → plan ≡ Some n → HasPlan w n

-- the author and the listed approvals are those of the plan
are_approvals : (w : WorldRows) (n author : List ℕ) (list : List Approval) (a : PlanApprovals) → a.author ≡ author → a.approvals.now ≡ list → ((x : Approval) → Contains list x ↔ IsApprovalOf w n x) → AreApprovals w n author a
are_approvals w n author list a by same all = record { author_is = by; approvals = subst (λ xs. (x : Approval) → Contains xs x ↔ IsApprovalOf w n x) (sym same) all }

said_some : (w : WorldRows) (n author : List ℕ) (list : List Approval) (o : Option PlanApprovals) (p : PlanRecord) → map.get w.plans n ≡ Some p → author ≡ p.author → ((x : Approval) → Contains list x ↔ IsApprovalOf w n x) → IsSaid (Some author) list o → AreOfPlan w (Some n) o
said_some w n author list None p there is all said = absurd said
said_some w n author list (Some a) p there is all said = (p, there, are_approvals w n p.author list a (said.0 ∙ is) said.1 all)

said_of_plan : (w : WorldRows) (plan : Option (List ℕ)) (list : List Approval) (o : Option PlanApprovals) → IsThere w plan → AreListed w plan list → IsSaid (author_named w plan) list o → AreOfPlan w plan o
said_of_plan w None list None there all said = tt
said_of_plan w None list (Some a) there all said = absurd said
said_of_plan w (Some n) list o there all said =
    let found = there n refl in
    said_some w n found.0.author list o found.0 found.1 refl (all n refl) (subst (λ x. IsSaid x list o) (ap (option_map (λ (p : PlanRecord). p.author)) found.1) said)

said_of_staged : (w : WorldRows) (caller n : List ℕ) (list : List Approval) (o : Option PlanApprovals) → ((x : Approval) → Contains list x ↔ IsApprovalOf w n x) → IsSaid (Some caller) list o → AreOfStaged w caller n o
said_of_staged w caller n list None all said = said
said_of_staged w caller n list (Some a) all said = are_approvals w n caller list a said.0 said.1 all

said_of_command : {A : Type 0} (w : WorldRows) (caller : List ℕ) (c : Command A) (list : List Approval) (o : Option PlanApprovals) → IsThere w (plan_of c) → AreListed w (plan_named c) list → IsSaid (plan_author w caller c) list o → AreOfCommand w caller c o
said_of_command w caller (Import f rows) list o there all = said_of_plan w None list o there all
said_of_command w caller (PutHolder k n t ports) list o there all = said_of_plan w None list o there all
said_of_command w caller (PutVolume n v) list o there all = said_of_plan w None list o there all
said_of_command w caller (DropHolder k n) list o there all = said_of_plan w None list o there all
said_of_command w caller (DropVolume n) list o there all = said_of_plan w None list o there all
said_of_command w caller (Stage n steps) list o there all = said_of_staged w caller n list o (all n refl)
said_of_command w caller (Withdraw n) list o there all = said_of_plan w (Some n) list o there all
said_of_command w caller (Approve n) list o there all = said_of_plan w (Some n) list o there all
said_of_command w caller (DryRun n) list o there all = said_of_plan w (Some n) list o there all
said_of_command w caller (Activate n) list o there all = said_of_plan w (Some n) list o there all
said_of_command w caller (Rollback n) list o there all = said_of_plan w (Some n) list o there all
said_of_command w caller (Show q) list o there all = said_of_plan w None list o there all

-- what was found of a command: its action, fabrics, tenants and approvals
pub record AreFound {A : Type 0} (w : WorldRows) (caller : List ℕ) (c : Command A) (action : Action) (fabrics : List Fabric) (touched : List (List ℕ)) (approvals : List Approval) : Type 0 where
  pub there : IsThere w (plan_of c)
  pub action_is : action_of c ≡ Some action
  pub fabrics_are : (f : Fabric) → Contains fabrics f ↔ NamesFabric w c f
  pub touched_are : (t : List ℕ) → Contains touched t ↔ Touches w caller c t
  pub approvals_are : AreListed w (plan_named c) approvals

act_made : {A : Type 0} (w : WorldRows) (id : ℕ) (caller : List ℕ) (moment : ℕ) (c : Command A) (action : Action) (fabrics : List Fabric) (touched : List (List ℕ)) (author : Option (List ℕ)) (approvals : List Approval) (revision : ℕ) (a : Act) → AreFound w caller c action fabrics touched approvals → author ≡ plan_author w caller c → revision ≡ w.revision → IsMadeOf id action fabrics touched moment author approvals revision a → IsAct w id caller moment c a
act_made w id caller moment c action fabrics touched author approvals revision a found by at made = record {
  caller_is = made.caller_is;
  action = found.action_is ∙ ap Some (sym made.action_is);
  fabrics = subst (λ xs. (f : Fabric) → Contains xs f ↔ NamesFabric w c f) (sym made.fabrics_are) found.fabrics_are;
  touched = subst (λ xs. (t : List ℕ) → Contains xs t ↔ Touches w caller c t) (sym made.touched_are) found.touched_are;
  moment_is = made.moment_is;
  plan = said_of_command w caller c approvals a.plan found.there found.approvals_are (subst (λ o. IsSaid o approvals a.plan) by made.plan);
  revision = made.revision_is ∙ at;
}

-- so the verdict on it is that on the command
pub judged_made : {A : Type 0} (p : PolicyRows) (w : WorldRows) (id : ℕ) (caller : List ℕ) (moment : ℕ) (c : Command A) (action : Action) (fabrics : List Fabric) (touched : List (List ℕ)) (author : Option (List ℕ)) (approvals : List Approval) (revision : ℕ) (v : Verdict) → AreFound w caller c action fabrics touched approvals → author ≡ plan_author w caller c → revision ≡ w.revision → IsDecided p id action fabrics touched moment author approvals revision v → IsJudged p w id caller moment c v
judged_made p w id caller moment c action fabrics touched author approvals revision v found by at d = (d.0, act_made w id caller moment c action fabrics touched author approvals revision d.0 found by at d.1, d.2)
