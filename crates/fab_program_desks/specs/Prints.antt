-- What goes to standard output of an answer.
use Rattle.std.specs.Prelude.{ℕ, ◌≡◌, List, Option, Result, Ok, Err}
use Rattle.std.specs.Io.KnownBytes.{Appends}
use Rattle.fab_wire_answers.specs.declared.answers.Answer.{Answer}
use Rattle.fab_files.specs.Ends.{end_of}
use Rattle.fab_files.specs.Printed.{IsPrinted}
use Rattle.fab_files.specs.declared.forms.Form.{Form}
use Rattle.fab_files_base.specs.declared.printing.End.{End}
use Rattle.fab_files_base.specs.declared.printing.PrintFault.{PrintFault}
use Rattle.fab_program_outside.specs.Printing.{fault_of_printing}
use Rattle.fab_program_outside.specs.declared.faults.Fault.{Fault}

-- the writer is printed the text of the answer in the form, and how it ended is what the answer says;
-- or there was no memory, or the writer failed
abbrev pub IsPrintedTo : {A W : Type 0} → (W → Option (List ℕ)) → Form → Answer A → W → Result (W × End) Fault → Type 0
IsPrintedTo contents form a writer (Ok done) =
    ((text : List ℕ) × IsPrinted form a text × Appends (contents writer) (contents done.0) text) × (done.1 ≡ end_of a)
IsPrintedTo contents form a writer (Err fault) = (why : PrintFault) × (fault ≡ fault_of_printing why)
