-- What is printed to standard output.
use Rattle.std.specs.Prelude.{ℕ, ◌≡◌, List, Option, Result, Ok, Err}
use Rattle.std.specs.Io.KnownBytes.{Appends}
use Rattle.fab_files_base.specs.declared.printing.End.{End}
use Rattle.fab_files_base.specs.declared.printing.PrintFault.{PrintFault}
use Rattle.fab_files_base.specs.declared.printing.PrintFault.TheVariants as print
use Rattle.fab_program_outside.specs.declared.faults.Fault.{Fault}
use Rattle.fab_program_outside.specs.declared.faults.Fault.TheVariants as fault

abbrev pub fault_of_printing : PrintFault → Fault
fault_of_printing print.Memory = fault.Memory
fault_of_printing print.Stream = fault.Stream

-- the writer is printed just this text, and the command ends so; or there was no memory, or the writer failed
abbrev pub Prints : {W : Type 0} → (W → Option (List ℕ)) → W → List ℕ → End → Result (W × End) Fault → Type 0
Prints contents writer text end (Ok done) = Appends (contents writer) (contents done.0) text × (done.1 ≡ end)
Prints contents writer text end (Err f) = (cause : PrintFault) × (f ≡ fault_of_printing cause)
