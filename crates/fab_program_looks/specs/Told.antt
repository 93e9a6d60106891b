-- What a caller is told of an import or of a plan, and what is printed of it.
use Rattle.std.specs.Prelude.{ℕ, ◌⊎◌, List, Bool, true, false, Option, Result}
use Rattle.std.specs.declared.vec.Vec.{Vec}
use Rattle.std.specs.declared.alloc.Global.{Global}
use Rattle.fab_desk_base.specs.Answers.{IsNobodys}
use Rattle.fab_desk_base.specs.declared.command.Command.TheVariants as command
use Rattle.fab_desk_base.specs.declared.fault.DeskFault.{DeskFault}
use Rattle.fab_desk_base.specs.declared.fault.DeskFault.TheVariants as refusal
use Rattle.fab_desk_base.specs.declared.reply.Reply.TheVariants as reply
use Rattle.fab_desk_machine.specs.Foreseen.{IsTurnedDown}
use Rattle.fab_desk_machine.specs.Proposals.{request_of}
use Rattle.fab_files.specs.Printed.{json_line}
use Rattle.fab_files_base.specs.declared.printing.End.{End}
use Rattle.fab_files_base.specs.declared.printing.End.TheVariants.{Done, Refused}
use Rattle.fab_files_tries.specs.Imports.{import_json, import_text, is_over}
use Rattle.fab_files_tries.specs.Plans.{plan_json, plan_text}
use Rattle.fab_inventory.specs.declared.port.PortRow.{PortRow}
use Rattle.fab_files_tries.specs.fab_looks_tries.Tries.{IsTriedImport, IsTriedPlan}
use Rattle.fab_files_tries.specs.fab_looks_tries.declared.imports.TriedImport.{TriedImport}
use Rattle.fab_files_tries.specs.fab_looks_tries.declared.plans.TriedPlan.{TriedPlan}
use Rattle.fab_names.specs.declared.fabric.Fabric.{Fabric}
use Rattle.fab_policy_base.specs.Callers.{HasToken}
use Rattle.fab_policy_base.specs.Policies.{PolicyRows}
use Rattle.fab_program_outside.specs.Contents.{IsTooLarge}
use Rattle.fab_program_outside.specs.Printing.{Prints}
use Rattle.fab_program_outside.specs.declared.faults.Fault.{Fault}
use Rattle.fab_wire_answers.specs.declared.answers.Answer.{Answer}
use Rattle.fab_wire_answers.specs.declared.answers.Answer.TheVariants as answer
use Rattle.fab_wire_base.specs.declared.requests.Refusal.{Refusal}
use Rattle.fab_wire_base.specs.declared.requests.Refusal.TheVariants as no
use Rattle.fab_wire_requests.specs.PortLists.{IsFaultAt, ListsPorts}
use Rattle.fab_world.specs.Worlds.{WorldRows}

-- what the desk answers that refuses a request, or that can not read its bytes
abbrev pub refused_with : DeskFault → Answer Global
refused_with q = answer.Replied (reply.Refused q)

abbrev pub unread_with : Refusal → Answer Global
unread_with r = answer.Refused r

-- it is refused where more paths are lost than may be
abbrev pub end_if : Bool → End
end_if true = Refused
end_if false = Done

abbrev pub end_of_import : {A : Type 0} → TriedImport A → Option ℕ → End
end_of_import t most = end_if (is_over t.paths.lost most)

abbrev pub import_output : {A : Type 0} → Bool → TriedImport A → Option ℕ → List ℕ
import_output true t most = import_json t most
import_output false t most = import_text t most

abbrev pub plan_output : {A : Type 0} → Bool → TriedPlan A → List ℕ
plan_output true t = plan_json t
plan_output false t = plan_text t

module _ {W : Type 0} (contents : W → Option (List ℕ)) (w : WorldRows) (p : PolicyRows) (token : List ℕ) (moment : ℕ) where
  -- what the import of the records would do is printed; or the refusal that the import would meet
  abbrev pub TellsRows : Fabric → Vec PortRow Global → Option ℕ → Bool → W → Result (W × End) Fault → Type 0
  TellsRows f rows most json writer came =
      ((t : TriedImport Global) × IsTriedImport p w token moment f rows t × Prints contents writer (import_output json t most) (end_of_import t most) came)
      ⊎ ((q : DeskFault) × IsTurnedDown {A = Global} p w (request_of token moment (command.Import f rows)) q × Prints contents writer (json_line (refused_with q)) Refused came)

  -- there are more bytes than a port list may have; or else the record of this number is faulty, there was no
  -- memory, or the bytes list records, and it is told what their import would do
  abbrev pub TellsBytes : Fabric → List ℕ → Option ℕ → Bool → W → Result (W × End) Fault → Type 0
  TellsBytes f bytes most json writer came =
      (IsTooLarge bytes × Prints contents writer (json_line (unread_with no.TooLarge)) Refused came)
      ⊎ (¬ IsTooLarge bytes × (((line : ℕ) × IsFaultAt bytes line × Prints contents writer (json_line (unread_with (no.BadBody line))) Refused came)
      ⊎ (Prints contents writer (json_line (refused_with refusal.Memory)) Refused came
      ⊎ ((rows : Vec PortRow Global) × ListsPorts bytes rows.items × TellsRows f rows most json writer came))))

  -- nobody has the token; or somebody has it, and it is told of the bytes
  abbrev pub TellsImport : Fabric → List ℕ → Option ℕ → Bool → W → Result (W × End) Fault → Type 0
  TellsImport f bytes most json writer came =
      (IsNobodys p token × Prints contents writer (json_line (refused_with refusal.NoCaller)) Refused came)
      ⊎ (((id : ℕ) × HasToken p token id) × TellsBytes f bytes most json writer came)

  -- what the activation of the plan would do is printed; or the refusal that its dry run would meet
  abbrev pub TellsPlan : List ℕ → Bool → W → Result (W × End) Fault → Type 0
  TellsPlan n json writer came =
      ((t : TriedPlan Global) × IsTriedPlan p w token moment n t × Prints contents writer (plan_output json t) Done came)
      ⊎ ((q : DeskFault) × IsTurnedDown {A = Global} p w (request_of token moment (command.DryRun n)) q × Prints contents writer (json_line (refused_with q)) Refused came)
