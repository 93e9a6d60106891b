-- What serving one connection does, from bytes to bytes.
use Rattle.std.specs.Prelude.{ℕ, ◌≡◌, ◌<◌, ◌⊎◌, List, Option, None, Some, IfSome, length}
use Rattle.std.specs.Io.KnownBytes.{Appends, Keeps}
use Rattle.fab_wire_streams.specs.Failures.{one_more}
use Rattle.fab_wire_streams.specs.Sent.{AppendsBeginning}
use Rattle.fab_desk.specs.fab_store_base.declared.store.Store as store
use Rattle.fab_desk.specs.fab_desk_base.Commands.{IsGiven}
use Rattle.fab_desk.specs.fab_desk_base.declared.command.Command.{Command}
use Rattle.fab_desk.specs.fab_desk_base.declared.fault.DeskFault.{DeskFault}
use Rattle.fab_desk.specs.fab_desk_base.declared.fault.DeskFault.TheVariants.{NotFound, Halted}
use Rattle.fab_desk.specs.fab_desk_base.declared.reply.Reply.{Reply}
use Rattle.fab_desk.specs.fab_desk_base.declared.reply.Reply.TheVariants as reply
use Rattle.fab_desk.specs.Handled.{Handles, policy_of, serving_of}
use Rattle.fab_desk.specs.declared.desk.Desk.{Desk}
use Rattle.fab_wire_base.specs.Spelling.{Request, Spelling, nothing, refused, asked, Spells}
use Rattle.fab_wire_base.specs.declared.requests.Refusal.TheVariants.{BadBody}
use Rattle.fab_wire_requests.specs.Commands.{order_of}
use Rattle.fab_wire_requests.specs.Meanings.{Meaning, asks, unnamed, bad_body, Means}
use Rattle.fab_wire_answers.specs.Messages.{status_of, text, told_of, want_of_memory}
use Rattle.fab_wire_answers.specs.declared.answers.Answer.{Answer}
use Rattle.fab_wire_answers.specs.declared.answers.Answer.TheVariants as answer
use Rattle.fab_wire.specs.Known.{is_known}
use Rattle.fab_wire.specs.declared.outcome.Outcome.{Outcome}
use Rattle.fab_wire.specs.declared.outcome.Outcome.TheVariants as outcome

-- what is known of one side of a connection: its bytes, if it tells them, and how many of its calls have failed
pub record Side : Type 0 where
  pub bytes : Option (List ℕ)
  pub failures : ℕ

abbrev pub side : Option (List ℕ) → ℕ → Side
side bytes failures = record { bytes = bytes; failures = failures }

-- a path that names nothing is refused as what is not there; a halted desk does not look
abbrev pub unnamed_fault : {S : Type 0} → Option S → DeskFault
unnamed_fault (Some s) = NotFound
unnamed_fault None = Halted

module _ {A S B R : Type 0} (g : store.Ghosts S A) where
  -- to the caller of a token, at a moment, a meaning is answered so, and leaves the desk so
  abbrev pub AnswersMeaning : Desk A S B R → List ℕ → ℕ → Meaning → Answer A → Desk A S B R → Type 0
  AnswersMeaning d token moment (bad_body line) a e = (a ≡ answer.Refused (BadBody line)) × (e ≡ d)
  AnswersMeaning d token moment unnamed a e = (a ≡ answer.Replied (reply.Refused (unnamed_fault (serving_of d)))) × (e ≡ d)
  AnswersMeaning d token moment (asks order) a e =
      (c : Command A) × (r : Reply A) × (order_of c ≡ order) × IsGiven c × Handles g d (record { token = token; moment = moment; command = c }) r e × (a ≡ answer.Replied r)

  -- a request is answered by what it means
  abbrev pub AnswersRequest : Desk A S B R → ℕ → Request → Answer A → Desk A S B R → Type 0
  AnswersRequest d moment q a e = (m : Meaning) × Means q.kind q.target q.body m × AnswersMeaning d q.token moment m a e

  -- what an input spells is answered so; to nothing there is no answer
  abbrev pub AnswersSpelling : Desk A S B R → ℕ → Spelling → Answer A → Desk A S B R → Type 0
  AnswersSpelling d moment nothing a e = ⊥
  AnswersSpelling d moment (refused why) a e = (a ≡ answer.Refused why) × (e ≡ d)
  AnswersSpelling d moment (asked q) a e = AnswersRequest d moment q a e

  -- there was no memory, the input is not empty, and nothing has changed
  abbrev pub IsWant : Option (List ℕ) → Desk A S B R → Answer A → Desk A S B R → Type 0
  IsWant input d a e = (a ≡ want_of_memory) × IfSome input (λ bytes. 0 < length bytes) × (e ≡ d)

  -- what the input spells, where the tokens of the desk's callers are known, is answered so; or there was no memory
  abbrev pub IsAnswered : Option (List ℕ) → Desk A S B R → ℕ → Answer A → Desk A S B R → Type 0
  IsAnswered input d moment a e =
      IsWant input d a e ⊎ ((spelling : Spelling) × IfSome input (λ bytes. Spells (is_known (policy_of d)) bytes spelling) × AnswersSpelling d moment spelling a e)

  -- One connection is served at a moment: the reader was at `input`, the writer goes from `sent` to `sent'`, the desk from d to e.
  abbrev pub Serves : Side → Side → Side → Side → Desk A S B R → ℕ → Outcome → Desk A S B R → Type 0
  -- the whole answer was written, and no read or write failed
  Serves input input' sent sent' d moment (outcome.Answered status) e =
      (a : Answer A) × IsAnswered input.bytes d moment a e × (status ≡ status_of (told_of a)) × Appends sent.bytes sent'.bytes (text (told_of a)) × (input'.failures ≡ input.failures) × (sent'.failures ≡ sent.failures)
  -- a beginning of the answer was written until a write failed; the command has acted as its reply says
  Serves input input' sent sent' d moment outcome.Unsent e =
      (a : Answer A) × IsAnswered input.bytes d moment a e × AppendsBeginning sent.bytes sent'.bytes (text (told_of a)) × (input'.failures ≡ input.failures) × (sent'.failures ≡ one_more sent.failures)
  -- a read failed: nothing was written, and nothing has acted
  Serves input input' sent sent' d moment outcome.ReadFailed e =
      (e ≡ d) × Keeps sent.bytes sent'.bytes × (input'.failures ≡ one_more input.failures) × (sent'.failures ≡ sent.failures)
  -- the input is empty: nothing was written, and nothing has acted
  Serves input input' sent sent' d moment outcome.Empty e =
      IfSome input.bytes (λ bytes. Spells (is_known (policy_of d)) bytes nothing) × (e ≡ d) × Keeps sent.bytes sent'.bytes × (input'.failures ≡ input.failures) × (sent'.failures ≡ sent.failures)
