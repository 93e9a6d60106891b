-- How the program ends.
use Rattle.std.specs.Prelude.{ℕ, ◌≡◌, ◌⊎◌, Result, Ok, Err}
use Rattle.fab_files_base.specs.declared.printing.End.{End}
use Rattle.fab_files_base.specs.declared.printing.End.TheVariants.{Done, Refused}
use Rattle.fab_program_outside.specs.declared.faults.Fault.{Fault}
use Rattle.fab_program_options.specs.declared.reading.WordsFault.{WordsFault}
use Rattle.fab_program_options.specs.declared.reading.WordsFault.TheVariants as words

-- making a database is done, where it was made
abbrev pub end_of_making : Result (Unit {0}) Fault → Result End Fault
end_of_making (Ok none) = Ok Done
end_of_making (Err fault) = Err fault

-- how a command ended, apart from its writer
abbrev pub end_only : {W : Type 0} → Result (W × End) Fault → Result End Fault
end_only (Ok done) = Ok done.1
end_only (Err fault) = Err fault

-- 0 for what was done, 1 for what was refused, 3 for a fault
abbrev pub status_of : Result End Fault → ℕ
status_of (Ok Done) = 0
status_of (Ok Refused) = 1
status_of (Err fault) = 3

-- 2 where the words are wrong, or ask for help, and 3 where there was no memory
abbrev pub words_status : WordsFault → ℕ
words_status (words.Refused error) = 2
words_status words.BadText = 2
words_status words.Memory = 3

-- done, refused, wrong words, or failed
abbrev pub IsExitStatus : ℕ → Type 0
IsExitStatus status = (status ≡ 0) ⊎ ((status ≡ 1) ⊎ ((status ≡ 2) ⊎ (status ≡ 3)))
