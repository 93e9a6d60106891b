-- What is asked for without a request, as at a command line, comes to at a desk.
use Rattle.std.specs.Prelude.{ℕ, ◌≡◌, ◌<◌, ◌⊎◌, List, length}
use Rattle.std.specs.declared.alloc.Global.{Global}
use Rattle.fab_names.specs.declared.fabric.Fabric.{Fabric}
use Rattle.fab_policy_base.specs.Callers.{HasToken}
use Rattle.fab_desk.specs.fab_store_base.declared.store.Store as store
use Rattle.fab_desk.specs.fab_desk_base.Answers.{IsNobodys}
use Rattle.fab_desk.specs.fab_desk_base.declared.command.Command.{Command}
use Rattle.fab_desk.specs.fab_desk_base.declared.command.Command.TheVariants as command
use Rattle.fab_desk.specs.fab_desk_base.declared.fault.DeskFault.TheVariants as refusal
use Rattle.fab_desk.specs.fab_desk_base.declared.reply.Reply.{Reply}
use Rattle.fab_desk.specs.fab_desk_base.declared.reply.Reply.TheVariants as reply
use Rattle.fab_desk.specs.Handled.{Handles, policy_of}
use Rattle.fab_desk.specs.declared.desk.Desk.{Desk}
use Rattle.fab_wire_base.specs.Limits.{most_body}
use Rattle.fab_wire_base.specs.declared.requests.Refusal.TheVariants as no
use Rattle.fab_wire_requests.specs.PortLists.{ListsPorts, IsFaultAt}
use Rattle.fab_wire_answers.specs.declared.answers.Answer.{Answer}
use Rattle.fab_wire_answers.specs.declared.answers.Answer.TheVariants as answer
use Rattle.fab_wire.specs.declared.tasks.Task.{Task}
use Rattle.fab_wire.specs.declared.tasks.Task.TheVariants as task

-- there are more bytes than a body may have
abbrev pub IsTooLong : List ℕ → Type 0
IsTooLong bytes = most_body < length bytes

-- the command imports the rows that the bytes list, at the fabric
abbrev pub IsImportOf : Fabric → List ℕ → Command Global → Type 0
IsImportOf fabric bytes (command.Import at rows) = (at ≡ fabric) × ListsPorts bytes rows.items
IsImportOf fabric bytes other = ⊥

-- why bytes are not imported though somebody has the token: there are more than a port list may have; or
-- else the record of this number is faulty, or there was no memory
abbrev pub IsTurnedBack : List ℕ → Answer Global → Type 0
IsTurnedBack bytes a = (IsTooLong bytes × (a ≡ answer.Refused no.TooLarge))
    ⊎ (¬ IsTooLong bytes × (((line : ℕ) × IsFaultAt bytes line × (a ≡ answer.Refused (no.BadBody line)))
    ⊎ (a ≡ answer.Replied (reply.Refused refusal.Memory))))

module _ {S B R : Type 0} (g : store.Ghosts S Global) where
  -- the desk handles the command, just once, and its reply is the answer
  abbrev pub Replies : Desk Global S B R → List ℕ → ℕ → Command Global → Answer Global → Desk Global S B R → Type 0
  Replies d token moment c a e = (r : Reply Global) × Handles g d (record { token = token; moment = moment; command = c }) r e × (a ≡ answer.Replied r)

  -- the bytes of a port list, of which there are not too many, are imported at the fabric; or they are
  -- turned back, and the desk is as it was
  abbrev pub ImportsKnown : Desk Global S B R → List ℕ → ℕ → Fabric → List ℕ → Answer Global → Desk Global S B R → Type 0
  ImportsKnown d token moment fabric bytes a e =
      (IsTurnedBack bytes a × (e ≡ d))
      ⊎ (¬ IsTooLong bytes × ((c : Command Global) × IsImportOf fabric bytes c × Replies d token moment c a e))

  -- nobody has the token, and the desk is as it was; or somebody has it, and the bytes are imported
  abbrev pub ImportsAt : Desk Global S B R → List ℕ → ℕ → Fabric → List ℕ → Answer Global → Desk Global S B R → Type 0
  ImportsAt d token moment fabric bytes a e =
      (IsNobodys (policy_of d) token × (a ≡ answer.Replied (reply.Refused refusal.NoCaller)) × (e ≡ d))
      ⊎ (((id : ℕ) × HasToken (policy_of d) token id) × ImportsKnown d token moment fabric bytes a e)

  -- the task is answered by its command
  abbrev pub AnswersTask : Desk Global S B R → List ℕ → ℕ → Task → Answer Global → Desk Global S B R → Type 0
  AnswersTask d token moment (task.DryRun plan) a e = Replies d token moment (command.DryRun plan) a e
  AnswersTask d token moment (task.Show query) a e = Replies d token moment (command.Show query) a e
  AnswersTask d token moment (task.Import fabric bytes) a e = ImportsAt d token moment fabric bytes.now a e
