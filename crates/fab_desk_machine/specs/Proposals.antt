-- What is proposed for a request, and what is answered to it.
use Rattle.std.specs.Prelude.{ℕ, ◌≡◌, ◌⊎◌, List, Option, None, Some, slice_get}
use Rattle.fab_policy.specs.fab_policy_base.Callers.{IsOnlyWith}
use Rattle.fab_policy.specs.fab_policy_base.Policies.{CallerRow, PolicyRows}
use Rattle.fab_reach_base.specs.Records.{Records}
use Rattle.fab_reach_base.specs.declared.book.Delta.{Delta}
use Rattle.fab_world.specs.Soundness.{IsSound}
use Rattle.fab_world.specs.Worlds.{WorldRows, records_of}
use Rattle.fab_desk_trials.specs.fab_desk_commands.Nexts.{next_world, Suits}
use Rattle.fab_desk_base.specs.Answers.{IsMove, IsKept, IsDeniedWith, IsRefusedWith, IsCarriedOut, Request, IsStep, IsNobodys}
use Rattle.fab_desk_base.specs.Refusals.{IsEffect}
use Rattle.fab_desk_base.specs.declared.command.Command.{Command}
use Rattle.fab_desk_base.specs.declared.command.Command.TheVariants.{Show}
use Rattle.fab_desk_base.specs.declared.command.Query.{Query}
use Rattle.fab_desk_base.specs.declared.fault.DeskFault.{DeskFault}
use Rattle.fab_desk_base.specs.declared.fault.DeskFault.TheVariants as fault
use Rattle.fab_desk_base.specs.declared.reply.Reply.{Reply}
use Rattle.fab_desk_base.specs.declared.reply.Reply.TheVariants as reply
use Rattle.fab_desk_machine.specs.Reports.{reply_of}
use Rattle.fab_desk_trials.specs.Trials.{IsStepReady}
use Rattle.fab_desk_machine.specs.declared.answers.Asked.{Asked}
use Rattle.fab_desk_machine.specs.declared.change.Change.{Change}
use Rattle.fab_desk_machine.specs.declared.proposing.Proposal.{Proposal}
use Rattle.fab_desk_machine.specs.declared.proposing.Proposal.TheVariants.{Answer, Ready}
use Rattle.fab_desk_machine.specs.declared.verdicts.Sender.{Sender}

-- there was no memory
abbrev pub IsMemory : {A : Type 0} → Reply A → Type 0
IsMemory r = r ≡ reply.Refused fault.Memory

-- the change is for the world, the book's step for it is ready, the world after it is sound, and
-- whatever the lists of what it moves, the reply with them and that world have P
pub record IsChangeFor {A R : Type 0} (leads : R → Records → Records → Type 0) (P : Reply A → WorldRows → Type 0) (w : WorldRows) (change : Change A R) : Type 0 where
  pub suits : Suits w change.next
  pub step : IsStepReady leads (records_of w) (records_of (next_world w change.next)) change.step
  pub sound : IsSound (next_world w change.next)
  pub replies : (d : Delta A) → IsMove w (next_world w change.next) d → P (reply_of change.report d) (next_world w change.next)

-- the answer and the world as it is have P, but for want of memory; or the change has it
abbrev pub IsProposalFor : {A R : Type 0} → (R → Records → Records → Type 0) → (Reply A → WorldRows → Type 0) → WorldRows → Proposal A R → Type 0
IsProposalFor leads P w (Answer r) = IsMemory r ⊎ P r w
IsProposalFor leads P w (Ready change) = IsChangeFor leads P w change

-- what a command comes to that is no read: it is denied, refused by the records, or carried out
abbrev pub IsEnd : {A : Type 0} → PolicyRows → WorldRows → ℕ → List ℕ → ℕ → Command A → Reply A → WorldRows → Type 0
IsEnd p w id caller moment c r new =
    ((q : DeskFault) × (IsDeniedWith p w id caller moment c q ⊎ IsRefusedWith p w id caller moment c q) × IsKept w q r new)
    ⊎ IsCarriedOut p w id caller moment c r new

-- ---- how many questions a book asks

-- the reply says that the command was done, or what it would do
abbrev pub IsAccepted : {A : Type 0} → Reply A → Type 0
IsAccepted (reply.Refused q) = ⊥
IsAccepted (reply.Shown s) = ⊥
IsAccepted _ = Unit {0}

-- the answer says so; or there is a change, of which the reply may say so
abbrev pub MayAccept : {A R : Type 0} → Proposal A R → Type 0
MayAccept (Answer r) = IsAccepted r
MayAccept (Ready change) = Unit {0}

-- the count went from the one number to the other, as a step may that leads from w to a world with P
abbrev pub CountsStep : (Records → Records → ℕ → ℕ → Type 0) → WorldRows → (WorldRows → Type 0) → ℕ → ℕ → Type 0
CountsStep bounds w P old new = (v : WorldRows) → P v → bounds (records_of w) (records_of v) old new

-- ---- reads

-- what a read asks for
abbrev pub query_in : {A : Type 0} → Command A → Option Query
query_in (Show q) = Some q
query_in _ = None

-- ---- requests

-- the request
abbrev pub request_of : {A : Type 0} → List ℕ → ℕ → Command A → Request A
request_of token moment c = record { token = token; moment = moment; command = c }

-- the effect of the request's command, of a dry run as of the activation
abbrev pub IsEffectOf : {A : Type 0} → PolicyRows → WorldRows → Request A → WorldRows → Type 0
IsEffectOf p w q v = (id : ℕ) × (caller : CallerRow) × IsOnlyWith p q.token id × (slice_get p.callers id ≡ Some caller) × IsEffect w caller.name q.command v

-- the request as it is asked
abbrev pub asked_of : {A : Type 0} → Asked A → Request A
asked_of q = request_of q.token.now q.moment q.command

-- the answer to a request, and the world after it; a request that is answered for want of memory
-- counts as not made
abbrev pub IsAnswered : {A : Type 0} → PolicyRows → WorldRows → Request A → Reply A → WorldRows → Type 0
IsAnswered p w q r new = (IsMemory r × (new ≡ w)) ⊎ IsStep p w q r new

-- ---- the sender

-- nobody has the token; or just this caller has it, by this name
abbrev pub IsSenderOf : PolicyRows → List ℕ → ℕ → Option Sender → Type 0
IsSenderOf p token moment None = IsNobodys p token
IsSenderOf p token moment (Some s) = IsOnlyWith p token s.id × ((caller : CallerRow) × (slice_get p.callers s.id ≡ Some caller) × (s.name ≡ caller.name)) × (s.moment ≡ moment)
