-- What answering one request comes to.
use Rattle.std.specs.Prelude.{ℕ, ◌≡◌, ◌⊎◌, List, Option, Result, Ok, Err}
use Rattle.std.specs.declared.alloc.Global.{Global}
use Rattle.fab_policy_base.specs.Policies.{PolicyRows}
use Rattle.fab_policy_base.specs.declared.trial.TheConstants.{TRIAL_POLICY}
use Rattle.fab_files_base.specs.declared.printing.End.{End}
use Rattle.fab_files_base.specs.declared.printing.End.TheVariants.{Done}
use Rattle.fab_program_outside.specs.Coming.{After, Then}
use Rattle.fab_program_outside.specs.Contents.{IsPolicyAt, IsPolicyFrom}
use Rattle.fab_program_outside.specs.declared.faults.Fault.{Fault}
use Rattle.fab_program_outside.specs.declared.faults.Fault.TheVariants as fault
use Rattle.fab_program_outside.specs.declared.files.Files as files
use Rattle.fab_store.specs.declared.Store as store
use Rattle.fab_wire.specs.Serving.{Side, side, Serves}
use Rattle.fab_wire.specs.declared.outcome.Outcome.{Outcome}
use Rattle.fab_wire.specs.declared.outcome.Outcome.TheVariants as outcomes
use Rattle.fab_program_words.specs.declared.words.Over.{Over}
use Rattle.fab_program_words.specs.declared.words.Over.TheVariants as over
use Rattle.fab_program_desks.specs.Databases.{IsDeskOver}
use Rattle.fab_program_desks.specs.Desks.{ProgramDesk}
use Rattle.fab_program_desks.specs.declared.database.Databases as databases

-- a request is done where its answer was written, or there was none; else a stream failed
abbrev pub ended : Outcome → Result End Fault
ended (outcomes.Answered status) = Ok Done
ended outcomes.Empty = Ok Done
ended outcomes.Unsent = Err fault.Stream
ended outcomes.ReadFailed = Err fault.Stream

-- it ends as the outcome says, and the writer that is handed back has what was sent
abbrev pub EndsSo : {W : Type 0} → (W → Option (List ℕ)) → Side → Outcome → Result (W × End) Fault → Type 0
EndsSo contents sent outcome (Ok done) = (ended outcome ≡ Ok done.1) × (sent.bytes ≡ contents done.0)
EndsSo contents sent outcome (Err fault) = ended outcome ≡ Err fault

module _ {S Reader Writer : Type 0} (g : store.Ghosts S Global) (remaining : Reader → Option (List ℕ)) (contents : Writer → Option (List ℕ)) where
  -- the one request of the reader is served by the desk at the moment, and its answer goes to the writer
  abbrev pub ServesIt : ProgramDesk S → ℕ → Reader → Writer → Result (Writer × End) Fault → Type 0
  ServesIt d moment reader writer came =
      (input : Side) × (sent : Side) × (outcome : Outcome) × (e : ProgramDesk S)
      × Serves g (side (remaining reader) 0) input (side (contents writer) 0) sent d moment outcome e × EndsSo contents sent outcome came

  -- then there is a moment, and then the request is served, or there is no memory for the routes
  abbrev pub IsServedAt : ProgramDesk S → Result ℕ Fault → Reader → Writer → Result (Writer × End) Fault → Type 0
  IsServedAt d moment reader writer came = After moment (λ m came. (came ≡ Err fault.Memory) ⊎ ServesIt d m reader writer came) came

  -- a desk is opened over a store, with the policy; and then the request is served
  abbrev pub IsServedOver : S → PolicyRows → Result ℕ Fault → Reader → Writer → Result (Writer × End) Fault → Type 0
  IsServedOver s policy moment reader writer came = Then (IsDeskOver g s policy) (λ d. IsServedAt d moment reader writer) came

module _ {O F T M Reader Writer : Type 0} (f : files.Ghosts O F) (known : F → Option (List ℕ)) (d : databases.Ghosts O T) (t : store.Ghosts T Global) (Makes : Result M Fault → Type 0) (m : store.Ghosts M Global)
    (remaining : Reader → Option (List ℕ)) (contents : Writer → Option (List ℕ)) where
  -- over a new desk in memory under the sample policy, or under the policy of a file, or over the desk of a database's file
  -- under the policy of a file
  abbrev pub ComesOnce : O → Over → Result ℕ Fault → Reader → Writer → Result (Writer × End) Fault → Type 0
  ComesOnce outside over.Trial moment reader writer came =
      Then (IsPolicyFrom TRIAL_POLICY.now) (λ p. Then Makes (λ s. IsServedOver m remaining contents s p moment reader writer)) came
  ComesOnce outside (over.Memory policy) moment reader writer came =
      Then (IsPolicyAt known (f.opens outside policy.now)) (λ p. Then Makes (λ s. IsServedOver m remaining contents s p moment reader writer)) came
  ComesOnce outside (over.Database policy db) moment reader writer came =
      Then (IsPolicyAt known (f.opens outside policy.now)) (λ p. Then (d.finds outside db.now) (λ s. IsServedOver t remaining contents s p moment reader writer)) came
