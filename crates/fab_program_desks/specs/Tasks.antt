-- What a task comes to over a store.
use Rattle.std.specs.Prelude.{ℕ, List, Option, Result}
use Rattle.std.specs.declared.alloc.Global.{Global}
use Rattle.fab_wire_answers.specs.declared.answers.Answer.{Answer}
use Rattle.fab_policy_base.specs.Policies.{PolicyRows}
use Rattle.fab_files.specs.declared.forms.Form.{Form}
use Rattle.fab_files_base.specs.declared.printing.End.{End}
use Rattle.fab_program_outside.specs.Coming.{After, Then}
use Rattle.fab_program_outside.specs.declared.faults.Fault.{Fault}
use Rattle.fab_store.specs.declared.Store as store
use Rattle.fab_program_desks.specs.Databases.{IsDeskOver}
use Rattle.fab_program_desks.specs.Desks.{ProgramDesk}
use Rattle.fab_program_desks.specs.Prints.{IsPrintedTo}

module _ {S W : Type 0} (Answers : ProgramDesk S → ℕ → Answer Global → ProgramDesk S → Type 0) (contents : W → Option (List ℕ)) (form : Form) where
  -- a desk answers at a moment, and a writer is printed just that answer, in the form
  abbrev pub IsDone : ProgramDesk S → ℕ → W → Result (W × End) Fault → Type 0
  IsDone d moment writer came = (a : Answer Global) × (e : ProgramDesk S) × Answers d moment a e × IsPrintedTo contents form a writer came

module _ {S W : Type 0} (g : store.Ghosts S Global) (Answers : ProgramDesk S → ℕ → Answer Global → ProgramDesk S → Type 0) (contents : W → Option (List ℕ)) (form : Form) where
  -- a desk is opened over a store, with the policy; then there is a moment; and then the desk answers
  abbrev pub ComesOver : S → PolicyRows → Result ℕ Fault → W → Result (W × End) Fault → Type 0
  ComesOver s policy moment writer came =
      Then (IsDeskOver g s policy) (λ d. After moment (λ m. IsDone Answers contents form d m writer)) came
