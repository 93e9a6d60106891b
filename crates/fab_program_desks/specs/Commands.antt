-- What the commands of one caller at a database come to.
use Rattle.std.specs.Prelude.{ℕ, List, Option, Result, Ok, Err}
use Rattle.std.specs.declared.alloc.Global.{Global}
use Rattle.fab_wire_answers.specs.declared.answers.Answer.{Answer}
use Rattle.fab_desk_base.specs.declared.command.Command.TheVariants as command
use Rattle.fab_desk_base.specs.declared.command.Query.{Query}
use Rattle.fab_policy_base.specs.Policies.{PolicyRows}
use Rattle.fab_files.specs.declared.forms.Form.{Form}
use Rattle.fab_files.specs.declared.forms.Form.TheVariants.{Json}
use Rattle.fab_files_base.specs.declared.printing.End.{End}
use Rattle.fab_program_outside.specs.Coming.{Then}
use Rattle.fab_program_outside.specs.Contents.{HasContent, IsPolicyAt, IsUnread}
use Rattle.fab_program_outside.specs.declared.faults.Fault.{Fault}
use Rattle.fab_program_outside.specs.declared.files.Files as files
use Rattle.fab_store.specs.declared.Store as store
use Rattle.fab_program_words.specs.declared.words.Access.{Access}
use Rattle.fab_program_words.specs.declared.words.DryRun.{DryRun}
use Rattle.fab_program_words.specs.declared.words.Import.{Import}
use Rattle.fab_program_desks.specs.Desks.{ProgramDesk}
use Rattle.fab_program_desks.specs.Tasks.{ComesOver}
use Rattle.fab_wire.specs.Tasks.{ImportsAt, Replies}
use Rattle.fab_program_desks.specs.declared.database.Databases as databases

-- what reading a file comes to: the bytes that it has, as many as a file may have and one more; or it is not read
abbrev pub IsReadAt : {F : Type 0} → (F → Option (List ℕ)) → (Option F → Type 0) → Result (List ℕ) Fault → Type 0
IsReadAt known Opens (Ok bytes) = HasContent known Opens bytes
IsReadAt known Opens (Err fault) = IsUnread Opens fault

module _ {O T W : Type 0} (d : databases.Ghosts O T) (t : store.Ghosts T Global)
    (Answers : ProgramDesk T → ℕ → Answer Global → ProgramDesk T → Type 0) (contents : W → Option (List ℕ)) (form : Form) where
  -- the tables at a path are opened, and then the desk over them answers
  abbrev pub ComesIn : O → List ℕ → PolicyRows → Result ℕ Fault → W → Result (W × End) Fault → Type 0
  ComesIn outside db policy moment writer came = Then (d.finds outside db) (λ s. ComesOver t Answers contents form s policy moment writer) came

module _ {O F T W : Type 0} (f : files.Ghosts O F) (known : F → Option (List ℕ)) (d : databases.Ghosts O T) (t : store.Ghosts T Global)
    (Answers : ProgramDesk T → ℕ → Answer Global → ProgramDesk T → Type 0) (contents : W → Option (List ℕ)) (form : Form) where
  -- the policy of the caller's file is read, and then the desk of the database answers under it
  abbrev pub ComesBy : O → Access → Result ℕ Fault → W → Result (W × End) Fault → Type 0
  ComesBy outside access moment writer came =
      Then (IsPolicyAt known (f.opens outside access.policy.now)) (λ p. ComesIn d t Answers contents form outside access.db.now p moment writer) came

module _ {O F T W : Type 0} (f : files.Ghosts O F) (known : F → Option (List ℕ)) (d : databases.Ghosts O T) (t : store.Ghosts T Global)
    (contents : W → Option (List ℕ)) where
  -- the plan that is asked for is tried at the moment, and the reply's JSON is printed
  abbrev pub DryRunComes : O → DryRun → Result ℕ Fault → W → Result (W × End) Fault → Type 0
  DryRunComes outside asked moment writer came =
      ComesBy f known d t (λ desk m a e. Replies t desk asked.access.token.now m (command.DryRun asked.plan) a e) contents Json outside asked.access moment writer came

  -- what is asked for is shown, and printed in the form; a read meets no rule, so its moment does not matter
  abbrev pub ShowComes : O → Access → Query → Form → W → Result (W × End) Fault → Type 0
  ShowComes outside access query form writer came =
      ComesBy f known d t (λ desk m a e. Replies t desk access.token.now m (command.Show query) a e) contents form outside access (Ok 0) writer came

  -- under the policy, the port list's file is read, and then its bytes are imported at the fabric that is asked for
  abbrev pub ImportComesIn : O → Import → PolicyRows → Result ℕ Fault → W → Result (W × End) Fault → Type 0
  ImportComesIn outside asked policy moment writer came =
      Then (IsReadAt known (f.opens outside asked.file.now)) (λ bytes.
      ComesIn d t (λ desk m a e. ImportsAt t desk asked.access.token.now m asked.fabric bytes a e) contents Json outside asked.access.db.now policy moment writer) came

  -- the policy is read, and then the port list is imported under it, and the reply's JSON is printed
  abbrev pub ImportComes : O → Import → Result ℕ Fault → W → Result (W × End) Fault → Type 0
  ImportComes outside asked moment writer came =
      Then (IsPolicyAt known (f.opens outside asked.access.policy.now)) (λ p. ImportComesIn outside asked p moment writer) came
