-- What is told on standard error.
use Rattle.std.specs.Prelude.{ℕ, List, Result}
use Rattle.fab_wire_streams.specs.Taking.{Takes}
use Rattle.fab_wire_streams.specs.declared.streams.WriteFailed.{WriteFailed}
use Rattle.fab_program_outside.specs.Faults.{line_of, words_line}
use Rattle.fab_program_outside.specs.declared.args.ArgsFault.{ArgsFault}
use Rattle.fab_program_outside.specs.declared.args.ArgsFault.TheVariants.{NotText, Memory}
use Rattle.fab_program_outside.specs.declared.faults.Fault.TheVariants as fault

-- the text was taken whole, or a beginning of it and no more
abbrev pub IsTold : {E : Type 0} → (E → List ℕ → E → Type 0) → (E → List ℕ → E → Type 0) → E → List ℕ → E → Type 0
IsTold took cut old text new = (came : Result (Unit {0}) WriteFailed) × Takes took cut old text new came

-- 2 where a word is no text, and 3 where there was no memory
abbrev pub args_status : ArgsFault → ℕ
args_status NotText = 2
args_status Memory = 3

abbrev pub args_line : ArgsFault → List ℕ
args_line NotText = words_line
args_line Memory = line_of fault.Memory
