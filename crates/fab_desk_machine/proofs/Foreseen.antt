-- What a request would change, and why it would not be done.
use Rattle.std.proofs.Common.{ℕ, inl, inr, List, IsSome, Some, Result, Ok, Err, IfOk, refl, subst}
use Rattle.fab_policy.specs.declared.act.Verdict.TheVariants.{Allowed}
use Rattle.fab_policy.specs.fab_policy_base.Policies.{PolicyRows}
use Rattle.fab_reach_base.specs.Records.{Records}
use Rattle.fab_world.specs.Worlds.{WorldRows}
use Rattle.fab_desk_base.specs.Acts.{IsJudged}
use Rattle.fab_desk_base.specs.Answers.{IsThere}
use Rattle.fab_desk_base.specs.Commands.{IsGiven, action_of}
use Rattle.fab_desk_base.specs.declared.command.Command.{Command}
use Rattle.fab_desk_base.specs.declared.fault.DeskFault.{DeskFault}
use Rattle.fab_desk_base.specs.declared.reply.Reply.TheVariants as reply
use Rattle.fab_desk_machine.specs.Foreseen.{IsForeseen, IsStopped, IsTurnedAway, IsTurnedDown}
use Rattle.fab_desk_machine.specs.Proposals.{IsSenderOf, request_of}
use Rattle.fab_desk_trials.specs.Trials.{IsPrepared}
use Rattle.fab_desk_trials.specs.declared.steps.Prepared.{Prepared}
use Rattle.fab_desk_machine.specs.declared.verdicts.Sender.{Sender}
use Rattle.fab_desk_machine.proofs.Ends.{answered, step_of}

module _ {A : Type 0} (p : PolicyRows) (w : WorldRows) where
  -- a command that is stopped is answered so
  pub away : (id : ℕ) (caller : List ℕ) (moment : ℕ) (c : Command A) (q : DeskFault) → IsSome (action_of c) → IsGiven c → IsThere p w id c → IsStopped p w id caller moment c q → IsTurnedAway p w id caller moment c q
  away id caller moment c q action given there (inl m) = inl m
  away id caller moment c q action given there (inr s) = inr (answered p w id caller moment c (reply.Refused q) w action given there (inl (q, s, (refl, refl))))

  -- what a known sender is answered is the step
  pub down : (token : List ℕ) (moment : ℕ) (c : Command A) (s : Sender) → IsSenderOf p token moment (Some s) → (q : DeskFault) → IsTurnedAway p w s.id s.name s.moment c q → IsTurnedDown p w (request_of token moment c) q
  down token moment c s is q (inl m) = inl m
  down token moment c s is q (inr a) = inr (step_of p w token moment c s is (reply.Refused q) w a)

  -- and what is foreseen for it
  pub foreseen : {R : Type 0} (leads : R → Records → Records → Type 0) (token : List ℕ) (moment : ℕ) (c : Command A) (s : Sender) → IsSenderOf p token moment (Some s) → (r : Result (Prepared A R) DeskFault)
      → IfOk r (λ t. IsJudged p w s.id s.name s.moment c Allowed) → IfOk r (IsPrepared leads w s.name c) → IfOk r (IsForeseen leads p w (request_of token moment c))
  foreseen leads token moment c s (only, row, at) (Ok t) judged prepared = record {
    id = s.id;
    caller = row.0;
    only = only;
    there = row.1;
    allowed = subst (λ n. IsJudged p w s.id n moment c Allowed) row.2 (subst (λ m. IsJudged p w s.id s.name m c Allowed) at judged);
    prepared = subst (λ n. IsPrepared leads w n c t) row.2 prepared;
  }
  foreseen leads token moment c s (only, row, at) (Err q) judged prepared = tt
