-- What a command comes to.
use Rattle.std.proofs.Common.{ℕ, ◌≡◌, inl, inr, List, cond, slice_get, Option, None, Some, IsSome, MatchOption, refl, sym, ap, ◌∙◌, subst}
use mathlib.Core.Bool.{true≢false}
use Rattle.std.proofs.lemmas.Option.{same_Some, none-some}
use Rattle.std.specs.Cmp.{tied_itself}
use Rattle.std.specs.FinMap as map
use Rattle.std.specs.Ordering.{is_eq}
use Rattle.fab_reach_base.proofs.fab_names.OrderLaws.{name_total}
use Rattle.fab_world.specs.fab_plans_base.Plans.{IsWithinLimits}
use Rattle.fab_world.specs.fab_plans_base.Steps.{PlanStep}
use Rattle.fab_desk_base.specs.Effects.{with_plan, staged_plan}
use Rattle.fab_policy.specs.declared.act.Verdict.TheVariants.{Allowed}
use Rattle.fab_policy.specs.fab_policy_base.Policies.{CallerRow, PolicyRows}
use Rattle.fab_reach_base.specs.Records.{Records}
use Rattle.fab_reach_base.specs.declared.book.Delta.{Delta}
use Rattle.fab_world.specs.Soundness.{IsSound}
use Rattle.fab_world.specs.Worlds.{WorldRows, records_of}
use Rattle.fab_desk_trials.specs.fab_desk_commands.Nexts.{next_world, Suits}
use Rattle.fab_desk_trials.specs.fab_desk_commands.declared.next.Next.{Next}
use Rattle.fab_desk_base.specs.Acts.{IsJudged}
use Rattle.fab_desk_base.specs.Answers.{IsMove, IsReport, IsLeft, IsCarriedOut, IsOutcomeFor, IsAnswerTo, IsThere, HasPlan, IsStep}
use Rattle.fab_desk_base.specs.Commands.{action_of, plan_of, IsGiven, IsStaging}
use Rattle.fab_desk_base.specs.Refusals.{IsEffect}
use Rattle.fab_desk_base.specs.declared.command.Command.{Command}
use Rattle.fab_desk_base.specs.declared.command.Command.TheVariants.{Import, PutHolder, PutVolume, DropHolder, DropVolume, Stage, Withdraw, Approve, DryRun, Activate, Rollback, Show}
use Rattle.fab_desk_base.specs.declared.command.Query.{Query}
use Rattle.fab_desk_base.specs.declared.reply.Reply.{Reply}
use Rattle.fab_desk_base.specs.declared.reply.Reply.TheVariants as reply
use Rattle.fab_desk_machine.specs.Proposals.{IsChangeFor, IsProposalFor, IsEffectOf, IsEnd, IsSenderOf, query_in, request_of}
use Rattle.fab_desk_machine.specs.Reports.{reply_of, TellsOf, Tells}
use Rattle.fab_desk_trials.proofs.TriedEffects.{no_policy}
use Rattle.fab_desk_machine.specs.Outcomes.{dry_run_plan_of}
use Rattle.fab_desk_trials.specs.Trials.{effect_world, HasEffect, IsNewPlan, IsStepReady}
use Rattle.fab_desk_trials.specs.declared.effects.Effect.{Effect}
use Rattle.fab_desk_machine.specs.declared.proposing.Proposal.{Proposal}
use Rattle.fab_desk_machine.specs.declared.proposing.Proposal.TheVariants.{Answer, Ready}
use Rattle.fab_desk_machine.specs.declared.report.Report.{Report}
use Rattle.fab_desk_machine.specs.declared.verdicts.Sender.{Sender}

-- ---- which command

no_name : {n : List ℕ} → ¬ (◌≡◌ {A = Option (List ℕ)} (Some n) None)
no_name e = absurd cc

-- what makes a new plan stages it
pub staging_of : {A : Type 0} (w : WorldRows) (c : Command A) → IsNewPlan w c → IsStaging c
staging_of w (Stage n steps) h = tt
staging_of w (Import f rows) h = absurd h
staging_of w (PutHolder kind n t ports) h = absurd h
staging_of w (PutVolume n x) h = absurd h
staging_of w (DropHolder kind n) h = absurd h
staging_of w (DropVolume n) h = absurd h
staging_of w (Withdraw n) h = absurd h
staging_of w (Approve n) h = absurd h
staging_of w (DryRun n) h = absurd h
staging_of w (Activate n) h = absurd h
staging_of w (Rollback n) h = absurd h
staging_of w (Show q) h = absurd h

-- a plan that may be staged is within the limits
pub staged_within : (w : WorldRows) (caller n : List ℕ) (xs : List PlanStep) → IsSound (with_plan n (staged_plan caller xs) w) → IsWithinLimits xs
staged_within w caller n xs sound =
    (sound.plans n (staged_plan caller xs) (map.get-insert name_total w.plans n (staged_plan caller xs) n ∙ ap (λ b. cond b (Some (staged_plan caller xs)) (map.get w.plans n)) (ap is_eq (tied_itself name_total n)))).steps

-- what is no dry run leaves its effect
pub leaves : {A : Type 0} (w : WorldRows) (c : Command A) (effect new : WorldRows) → dry_run_plan_of c ≡ None → new ≡ effect → IsLeft w c effect new
leaves w (DryRun n) effect new none same = absurd (no_name none)
leaves w (Import f rows) effect new none same = same
leaves w (PutHolder kind n t ports) effect new none same = same
leaves w (PutVolume n x) effect new none same = same
leaves w (DropHolder kind n) effect new none same = same
leaves w (DropVolume n) effect new none same = same
leaves w (Stage n steps) effect new none same = same
leaves w (Withdraw n) effect new none same = same
leaves w (Approve n) effect new none same = same
leaves w (Activate n) effect new none same = same
leaves w (Rollback n) effect new none same = same
leaves w (Show q) effect new none same = same

pub tells_of : {A : Type 0} (w : WorldRows) (caller : List ℕ) (c : Command A) (r : Report) → dry_run_plan_of c ≡ None → Tells w caller c r → TellsOf w caller c r
tells_of w caller (DryRun n) r none h = absurd (no_name none)
tells_of w caller (Import f rows) r none h = h
tells_of w caller (PutHolder kind n t ports) r none h = h
tells_of w caller (PutVolume n x) r none h = h
tells_of w caller (DropHolder kind n) r none h = h
tells_of w caller (DropVolume n) r none h = h
tells_of w caller (Stage n steps) r none h = h
tells_of w caller (Withdraw n) r none h = h
tells_of w caller (Approve n) r none h = h
tells_of w caller (Activate n) r none h = h
tells_of w caller (Rollback n) r none h = h
tells_of w caller (Show q) r none h = h

-- the dry run of a plan
pub is_dry_run : {A : Type 0} (c : Command A) (n : List ℕ) → dry_run_plan_of c ≡ Some n → c ≡ DryRun n
is_dry_run (DryRun m) n e = let same : m ≡ n = cc in ap DryRun same
is_dry_run (Import f rows) n e = absurd cc
is_dry_run (PutHolder kind m t ports) n e = absurd cc
is_dry_run (PutVolume m x) n e = absurd cc
is_dry_run (DropHolder kind m) n e = absurd cc
is_dry_run (DropVolume m) n e = absurd cc
is_dry_run (Stage m steps) n e = absurd cc
is_dry_run (Withdraw m) n e = absurd cc
is_dry_run (Approve m) n e = absurd cc
is_dry_run (Activate m) n e = absurd cc
is_dry_run (Rollback m) n e = absurd cc
is_dry_run (Show q) n e = absurd cc

-- a command is a read, or it has an action
pub is_read : {A : Type 0} (c : Command A) (q : Query) → query_in c ≡ Some q → c ≡ Show q
is_read (Show p) q e = let same : p ≡ q = cc in ap Show same
is_read (DryRun m) q e = absurd cc
is_read (Import f rows) q e = absurd cc
is_read (PutHolder kind m t ports) q e = absurd cc
is_read (PutVolume m x) q e = absurd cc
is_read (DropHolder kind m) q e = absurd cc
is_read (DropVolume m) q e = absurd cc
is_read (Stage m steps) q e = absurd cc
is_read (Withdraw m) q e = absurd cc
is_read (Approve m) q e = absurd cc
is_read (Activate m) q e = absurd cc
is_read (Rollback m) q e = absurd cc

pub has_action : {A : Type 0} (c : Command A) → query_in c ≡ None → IsSome (action_of c)
has_action (Show q) e = let no : ◌≡◌ {A = Option Query} (Some q) None = e in absurd cc
has_action (DryRun m) e = refl
has_action (Import f rows) e = refl
has_action (PutHolder kind m t ports) e = refl
has_action (PutVolume m x) e = refl
has_action (DropHolder kind m) e = refl
has_action (DropVolume m) e = refl
has_action (Stage m steps) e = refl
has_action (Withdraw m) e = refl
has_action (Approve m) e = refl
has_action (Activate m) e = refl
has_action (Rollback m) e = refl

-- ---- what it comes to

module _ {A : Type 0} (p : PolicyRows) (w : WorldRows) (id : ℕ) (caller : List ℕ) (moment : ℕ) where
  -- the end of a command that is no read is its outcome
  pub outcome : (c : Command A) (r : Reply A) (new : WorldRows) → IsSome (action_of c) → IsEnd p w id caller moment c r new → IsOutcomeFor p w id caller moment c r new
  outcome (Show q) r new action h = absurd (true≢false (sym action))
  outcome (DryRun m) r new action h = h
  outcome (Import f rows) r new action h = h
  outcome (PutHolder kind m t ports) r new action h = h
  outcome (PutVolume m x) r new action h = h
  outcome (DropHolder kind m) r new action h = h
  outcome (DropVolume m) r new action h = h
  outcome (Stage m steps) r new action h = h
  outcome (Withdraw m) r new action h = h
  outcome (Approve m) r new action h = h
  outcome (Activate m) r new action h = h
  outcome (Rollback m) r new action h = h

  pub answered : (c : Command A) (r : Reply A) (new : WorldRows) → IsSome (action_of c) → IsGiven c → IsThere p w id c → IsEnd p w id caller moment c r new → IsAnswerTo p w id caller moment c r new
  answered c r new action given there h = inr (inr (given, there, outcome c r new action h))

  module _ {R : Type 0} (leads : R → Records → Records → Type 0) (c : Command A) (e : Effect A) (has : HasEffect w caller c e) (allowed : IsJudged p w id caller moment c Allowed) where
    -- the change of a command that is no dry run
    pub ready_change : (next : Next A) (step : Option R) (report : Report) → dry_run_plan_of c ≡ None → next_world w next ≡ effect_world w caller c e → Suits w next
        → IsStepReady leads (records_of w) (records_of (effect_world w caller c e)) step → Tells w caller c report → IsChangeFor leads (IsCarriedOut p w id caller moment c) w (record { next = next; step = step; report = report })
    ready_change next step report none same suits ready tells = record {
      suits = suits;
      step = subst (λ x. IsStepReady leads (records_of w) (records_of x) step) (sym same) ready;
      sound = subst IsSound (sym same) has.sound;
      replies = λ d move. record {
        allowed = allowed;
        effect = effect_world w caller c e;
        is = has.is;
        report = tells_of w caller c report none tells (effect_world w caller c e) has.is d (subst (λ x. IsMove w x d) same move);
        left = leaves w c (effect_world w caller c e) (next_world w next) none same;
      };
    }

    -- the answer to a dry run
    pub dry_answer : (n : List ℕ) (d : Delta A) → dry_run_plan_of c ≡ Some n → IsMove w (effect_world w caller c e) d → IsCarriedOut p w id caller moment c (reply.Tried n d) w
    dry_answer n d is move = record {
      allowed = allowed;
      effect = effect_world w caller c e;
      is = has.is;
      report = subst (λ k. IsReport w k (effect_world w caller c e) (reply.Tried n d)) (sym (is_dry_run c n is)) (d, refl, move);
      left = subst (λ k. IsLeft w k (effect_world w caller c e) w) (sym (is_dry_run c n is)) refl;
    }

-- ---- proposals

-- one fact of a proposal follows from another
pub proposal_as : {A R : Type 0} (leads : R → Records → Records → Type 0) (P Q : Reply A → WorldRows → Type 0) (w : WorldRows) (x : Proposal A R) → ((r : Reply A) (new : WorldRows) → P r new → Q r new) → IsProposalFor leads P w x → IsProposalFor leads Q w x
proposal_as leads P Q w (Answer r) f (inl h) = inl h
proposal_as leads P Q w (Answer r) f (inr h) = inr (f r w h)
proposal_as leads P Q w (Ready change) f h = record { suits = h.suits; step = h.step; sound = h.sound; replies = λ d move. f (reply_of change.report d) (next_world w change.next) (h.replies d move) }

-- the answer to a known sender is the step
pub step_of : {A : Type 0} (p : PolicyRows) (w : WorldRows) (token : List ℕ) (moment : ℕ) (c : Command A) (s : Sender) → IsSenderOf p token moment (Some s) → (r : Reply A) (new : WorldRows) → IsAnswerTo p w s.id s.name s.moment c r new → IsStep p w (request_of token moment c) r new
step_of p w token moment c s (only, row, at) r new h =
    inr (s.id, row.0, only, row.1, subst (λ m. IsAnswerTo p w s.id row.0.name m c r new) at (subst (λ n. IsAnswerTo p w s.id n s.moment c r new) row.2 h))

-- the effect of the request is that of the command of its sender
pub sent_effect : {A : Type 0} (p : PolicyRows) (w : WorldRows) (token : List ℕ) (moment : ℕ) (c : Command A) (s : Sender) → IsSenderOf p token moment (Some s) → (v : WorldRows) → IsEffectOf p w (request_of token moment c) v → IsEffect w s.name c v
sent_effect p w token moment c s (only, row, at) v (id, caller, has, there, is) =
    let one : caller ≡ row.0 = same_Some caller row.0 (sym there ∙ ap (slice_get p.callers) (only.only id has.has) ∙ row.1) in
    subst (λ n. IsEffect w n c v) (ap (λ (x : CallerRow). x.name) one ∙ sym row.2) is

-- ---- the plan of a command

-- the plan that a command is about is there, where what it is about is
pub plan_there : {A : Type 0} (w : WorldRows) (c : Command A) → ((p : PolicyRows) (id : ℕ) → IsThere p w id c) → (n : List ℕ) → plan_of c ≡ Some n → HasPlan w n
plan_there w (Withdraw m) h n e = subst (HasPlan w) (same_Some m n e) (h no_policy 0)
plan_there w (Approve m) h n e = subst (HasPlan w) (same_Some m n e) (h no_policy 0)
plan_there w (DryRun m) h n e = subst (HasPlan w) (same_Some m n e) (h no_policy 0)
plan_there w (Activate m) h n e = subst (HasPlan w) (same_Some m n e) (h no_policy 0)
plan_there w (Rollback m) h n e = subst (HasPlan w) (same_Some m n e) (h no_policy 0)
plan_there w (Import f rows) h n e = absurd (none-some n e)
plan_there w (PutHolder kind m t ports) h n e = absurd (none-some n e)
plan_there w (PutVolume m x) h n e = absurd (none-some n e)
plan_there w (DropHolder kind m) h n e = absurd (none-some n e)
plan_there w (DropVolume m) h n e = absurd (none-some n e)
plan_there w (Stage m steps) h n e = absurd (none-some n e)
plan_there w (Show q) h n e = absurd (none-some n e)

-- what holds where there is nothing
pub nothing : {X : Type 0} (P : Type 0) (Q : X → Type 0) (o : Option X) → o ≡ None → MatchOption o P Q → P
nothing P Q o none h = subst (λ x. MatchOption x P Q) none h
