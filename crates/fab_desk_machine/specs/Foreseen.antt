-- What a request would change, were it done, and why it would not be done.
use Rattle.std.specs.Prelude.{ℕ, ◌≡◌, ◌⊎◌, List, Some, slice_get}
use Rattle.fab_policy.specs.declared.act.Verdict.TheVariants.{Allowed}
use Rattle.fab_policy.specs.fab_policy_base.Callers.{IsOnlyWith}
use Rattle.fab_policy.specs.fab_policy_base.Policies.{CallerRow, PolicyRows}
use Rattle.fab_reach_base.specs.Records.{Records}
use Rattle.fab_world.specs.Worlds.{WorldRows}
use Rattle.fab_desk_base.specs.Acts.{IsJudged}
use Rattle.fab_desk_base.specs.Answers.{IsAnswerTo, IsDeniedWith, IsRefusedWith, IsStep, Request}
use Rattle.fab_desk_base.specs.declared.command.Command.{Command}
use Rattle.fab_desk_base.specs.declared.fault.DeskFault.{DeskFault}
use Rattle.fab_desk_base.specs.declared.fault.DeskFault.TheVariants.{Memory}
use Rattle.fab_desk_base.specs.declared.reply.Reply.TheVariants as reply
use Rattle.fab_desk_trials.specs.Trials.{IsPrepared}
use Rattle.fab_desk_trials.specs.declared.steps.Prepared.{Prepared}

-- there was no memory; or the policy denies the command, or the records refuse it, with this fault
abbrev pub IsStopped : {A : Type 0} → PolicyRows → WorldRows → ℕ → List ℕ → ℕ → Command A → DeskFault → Type 0
IsStopped p w id caller moment c q = (q ≡ Memory) ⊎ (IsDeniedWith p w id caller moment c q ⊎ IsRefusedWith p w id caller moment c q)

-- there was no memory; or the command is answered that it is refused with this fault
abbrev pub IsTurnedAway : {A : Type 0} → PolicyRows → WorldRows → ℕ → List ℕ → ℕ → Command A → DeskFault → Type 0
IsTurnedAway {A} p w id caller moment c q = (q ≡ Memory) ⊎ IsAnswerTo {A = A} p w id caller moment c (reply.Refused q) w

-- there was no memory; or the request is answered so
abbrev pub IsTurnedDown : {A : Type 0} → PolicyRows → WorldRows → Request A → DeskFault → Type 0
IsTurnedDown {A} p w r q = (q ≡ Memory) ⊎ IsStep {A = A} p w r (reply.Refused q) w

-- one caller has the token, the policy allows what is asked, and this is its effect, for which the
-- book's step is ready
pub record IsForeseen {A R : Type 0} (leads : R → Records → Records → Type 0) (p : PolicyRows) (w : WorldRows) (r : Request A) (t : Prepared A R) : Type 0 where
  pub id : ℕ
  pub caller : CallerRow
  pub only : IsOnlyWith p r.token id
  pub there : slice_get p.callers id ≡ Some caller
  pub allowed : IsJudged p w id caller.name r.moment r.command Allowed
  pub prepared : IsPrepared leads w caller.name r.command t
