-- What the words of the command line come to.
use Rattle.std.specs.Prelude.{ℕ, ◌≡◌, ◌⊎◌, List, Option, None, Result, Ok, Err}
use Rattle.std.specs.declared.alloc.Global.{Global}
use Rattle.fab_desk_base.specs.declared.command.Query.TheVariants as query
use Rattle.fab_files.specs.declared.forms.Form.TheVariants as form
use Rattle.fab_files_base.specs.declared.printing.End.{End}
use Rattle.fab_program_outside.specs.Faults.{line_of, words_line}
use Rattle.fab_program_outside.specs.Moments.{IsMoment}
use Rattle.fab_program_outside.specs.Telling.{IsTold}
use Rattle.fab_program_outside.specs.declared.faults.Fault.{Fault}
use Rattle.fab_program_outside.specs.declared.faults.Fault.TheVariants as fault
use Rattle.fab_program_outside.specs.declared.files.Files as files
use Rattle.fab_wire_serving.specs.declared.server.Server as server
use Rattle.fab_wire.specs.declared.outcome.Outcome.{Outcome}
use Rattle.fab_store.specs.declared.OpenFault.{OpenFault}
use Rattle.fab_store.specs.declared.Store as store
use Rattle.fab_program_options.specs.Asking.{Asks, IsReason}
use Rattle.fab_program_options.specs.declared.reading.WordsFault.{WordsFault}
use Rattle.fab_program_options.specs.declared.reading.WordsFault.TheVariants as wrong
use Rattle.fab_program_words.specs.declared.words.Words.{Words}
use Rattle.fab_program_words.specs.declared.words.Words.TheVariants as words
use Rattle.fab_program_checks.specs.Checks.{CheckComes}
use Rattle.fab_program_checks.specs.declared.modes.Modes as modes
use Rattle.fab_program_checks.specs.Explains.{ExplainComes, now_in}
use Rattle.fab_program_desks.specs.Commands.{DryRunComes, ImportComes, ShowComes}
use Rattle.fab_program_desks.specs.Databases.{IsMade}
use Rattle.fab_program_desks.specs.Desks.{ProgramDesk}
use Rattle.fab_program.specs.Exits.{end_of_making, end_only, status_of, words_status}
use Rattle.fab_program.specs.Looks.{WhyComes, WhoComes, NamesComes}
use Rattle.fab_program_desks.specs.Once.{ComesOnce}
use Rattle.fab_program_desks.specs.Servings.{ComesServing}
use Rattle.fab_program.specs.Tries.{DiffComes, TryImportComes}
use Rattle.fab_program_desks.specs.declared.addresses.Addresses as addresses
use Rattle.fab_program_desks.specs.declared.database.Databases as databases

-- a fault has its line on standard error; nothing else is told
abbrev pub IsToldOf : {E : Type 0} → (E → List ℕ → E → Type 0) → (E → List ℕ → E → Type 0) → E → Result End Fault → E → Type 0
IsToldOf took cut old (Ok end) new = new ≡ old
IsToldOf took cut old (Err fault) new = IsTold took cut old (line_of fault) new

-- of words that have not their text form nothing is told but that; what clap refuses it tells itself
abbrev pub IsToldOfWords : {E : Type 0} → (E → List ℕ → E → Type 0) → (E → List ℕ → E → Type 0) → E → WordsFault → E → Type 0
IsToldOfWords took cut old (wrong.Refused error) new = Unit {0}
IsToldOfWords took cut old wrong.BadText new = IsTold took cut old words_line new
IsToldOfWords took cut old wrong.Memory new = IsTold took cut old (line_of fault.Memory) new

-- what a subcommand comes to, and how it ends
module _ {E : Type 0} (took : E → List ℕ → E → Type 0) (cut : E → List ℕ → E → Type 0) (Ends : Words → Result End Fault → Type 0) where
  -- the words ask for something; that is carried out, a fault has its line on standard error, and the status is that of the end
  abbrev pub IsCarriedOut : List (List ℕ) → E → ℕ → E → Type 0
  IsCarriedOut line old status new = (asked : Words) × Asks line asked
      × ((ended : Result End Fault) × Ends asked ended × IsToldOf took cut old ended new × (status ≡ status_of ended))

  -- the words ask for nothing, and why is told
  abbrev pub IsTurnedAway : List (List ℕ) → E → ℕ → E → Type 0
  IsTurnedAway line old status new = (why : WordsFault) × IsReason line why × IsToldOfWords took cut old why new × (status ≡ words_status why)

  -- what the program does for the words of a command line, from one standard error to the next
  abbrev pub RunsTo : List (List ℕ) → E → ℕ → E → Type 0
  RunsTo line old status new = IsCarriedOut line old status new ⊎ IsTurnedAway line old status new

-- a command came to something, and ended so
abbrev pub EndsLike : {W : Type 0} → (Result (W × End) Fault → Type 0) → Result End Fault → Type 0
EndsLike {W} Came ended = (done : Result (W × End) Fault) × Came done × (ended ≡ end_only done)

-- and that at a moment: the one that is given, or else the clock's
abbrev pub EndsAt : {W : Type 0} → Option ℕ → (Option ℕ → Type 0) → (Result ℕ Fault → Result (W × End) Fault → Type 0) → Result End Fault → Type 0
EndsAt given Tells Came ended = (moment : Result ℕ Fault) × IsMoment given Tells moment × EndsLike (Came moment) ended

module _ {O F T M D Reader Writer : Type 0} (f : files.Ghosts O F) (known : F → Option (List ℕ)) (d : databases.Ghosts O T) (a : addresses.Ghosts O) (v : modes.Ghosts O)
    (t : store.Ghosts T Global) (Makes : Result M Fault → Type 0) (m : store.Ghosts M Global) (remaining : Reader → Option (List ℕ)) (contents : Writer → Option (List ℕ)) (Tells : Option ℕ → Type 0)
    (w : server.Ghosts D T OpenFault Outcome) (desk_of : D → ProgramDesk T) (gives : Option ℕ → Type 0) where
  -- what each subcommand comes to
  abbrev pub Comes : O → Words → Reader → Writer → Result End Fault → Type 0
  Comes outside (words.Init asked) reader writer ended =
      (made : Result (Unit {0}) Fault) × IsMade (f.measures outside asked.db.now) (d.makes outside asked.db.now) made × (ended ≡ end_of_making made)
  Comes outside (words.Serve asked) reader writer ended = ComesServing f known d a t w desk_of contents gives outside asked writer ended
  Comes outside (words.Once asked) reader writer ended =
      EndsAt asked.now Tells (λ moment. ComesOnce f known d t Makes m remaining contents outside asked.over moment reader writer) ended
  Comes outside (words.Import asked) reader writer ended = EndsAt asked.now Tells (λ moment. ImportComes f known d t contents outside asked moment writer) ended
  Comes outside (words.Paths asked) reader writer ended = EndsLike (ShowComes f known d t contents outside asked.access (query.Paths asked.host) form.Paths writer) ended
  Comes outside (words.Report asked) reader writer ended = EndsLike (ShowComes f known d t contents outside asked.access (query.Paths asked.host) form.Report writer) ended
  Comes outside (words.Export asked) reader writer ended = EndsLike (ShowComes f known d t contents outside asked.access (query.Active asked.fabric) form.Active writer) ended
  Comes outside (words.DryRun asked) reader writer ended = EndsAt asked.now Tells (λ moment. DryRunComes f known d t contents outside asked moment writer) ended
  Comes outside (words.Why asked) reader writer ended = EndsLike (WhyComes f known d t contents outside asked writer) ended
  Comes outside (words.Who asked) reader writer ended = EndsLike (WhoComes f known d t contents outside asked writer) ended
  Comes outside (words.Names asked) reader writer ended = EndsLike (NamesComes f known d t contents outside asked writer) ended
  Comes outside (words.Check asked) reader writer ended = EndsLike (CheckComes f known v contents outside asked writer) ended
  Comes outside (words.Explain asked) reader writer ended = EndsAt (now_in asked.of) Tells (λ moment. ExplainComes f known contents outside asked moment writer) ended
  Comes outside (words.TryImport asked) reader writer ended = EndsAt None Tells (λ moment. TryImportComes f known d t contents outside asked moment writer) ended
  Comes outside (words.Diff asked) reader writer ended = EndsAt None Tells (λ moment. DiffComes f known d t contents outside asked moment writer) ended
