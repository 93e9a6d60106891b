-- How the words are read, of which private clauses speak.
use Rattle.std.specs.Prelude.{ℕ, ◌≡◌, ◌≢◌, List, Option, Some, None}
use Rattle.clap.specs.Words.{Row, Text, kind_of}
use Rattle.clap.specs.declared.error.Error.{Error}
use Rattle.clap.specs.declared.error.kind.ErrorKind.TheVariants.{OutOfMemory}
use Rattle.fab_program_options.specs.Asking.{IsAsked, HasValues, subcommand_in}
use Rattle.fab_program_options.specs.declared.subcommands.Subcommand.{Subcommand}
use Rattle.fab_program_options.specs.declared.reading.WordsFault.{WordsFault}
use Rattle.fab_program_options.specs.declared.reading.WordsFault.TheVariants.{Refused, BadText, Memory}
use Rattle.fab_program_words.specs.declared.words.Over.{Over}
use Rattle.fab_program_words.specs.declared.words.Over.TheVariants as over
use Rattle.fab_program_words.specs.declared.words.Words.{Words}

-- clap's error is handed on, but for want of memory
abbrev pub IsFaultOf : Error → WordsFault → Type 0
IsFaultOf error (Refused e) = (e ≡ error) × (kind_of error ≢ OutOfMemory)
IsFaultOf error BadText = ⊥
IsFaultOf error Memory = kind_of error ≡ OutOfMemory

-- what was found asks for these words, or for none
abbrev pub IsFound : Option (Text × List Row) → Option Words → Type 0
IsFound found None = (w : Words) → ¬ IsAsked found w
IsFound found (Some w) = IsAsked found w

-- the options of a subcommand ask for these words, or for none
abbrev pub IsRead : Subcommand → List Row → Option Words → Type 0
IsRead s rows None = (w : Words) → s ≡ subcommand_in w → ¬ HasValues rows w
IsRead s rows (Some w) = (s ≡ subcommand_in w) × HasValues rows w

-- a new desk in memory, under a policy if there is one
abbrev pub IsInMemory : Option (List ℕ) → Over → Type 0
IsInMemory policy over.Trial = policy ≡ None
IsInMemory policy (over.Memory p) = policy ≡ Some p.now
IsInMemory policy (over.Database p db) = ⊥
