-- What imports and plans that are tried come to at a database.
use Rattle.std.specs.Prelude.{ℕ, List, Option, Result}
use Rattle.std.specs.declared.alloc.Global.{Global}
use Rattle.fab_files_base.specs.declared.printing.End.{End}
use Rattle.fab_policy_base.specs.Policies.{PolicyRows}
use Rattle.fab_program_desks.specs.Commands.{IsReadAt}
use Rattle.fab_program_desks.specs.declared.database.Databases as databases
use Rattle.fab_program_outside.specs.Coming.{Then}
use Rattle.fab_program_outside.specs.Contents.{IsPolicyAt}
use Rattle.fab_program_outside.specs.declared.faults.Fault.{Fault}
use Rattle.fab_program_outside.specs.declared.files.Files as files
use Rattle.fab_program_looks.specs.Told.{TellsImport, TellsPlan}
use Rattle.fab_program_looks.specs.Tries.{ComesTold, TriesOver}
use Rattle.fab_program_looks.specs.declared.tries.Asked.{Asked}
use Rattle.fab_program_words.specs.declared.words.Diff.{Diff}
use Rattle.fab_program_words.specs.declared.words.TryImport.{TryImport}
use Rattle.fab_store.specs.declared.Store as store

module _ {O T W : Type 0} (d : databases.Ghosts O T) (t : store.Ghosts T Global) (contents : W → Option (List ℕ)) where
  -- the tables at a path are opened, and then it is told what would be done there
  abbrev pub ComesTrying : O → List ℕ → PolicyRows → Asked → W → Result (W × End) Fault → Type 0
  ComesTrying outside db policy asked writer came = Then (d.finds outside db) (λ s. TriesOver t contents s policy asked writer) came

module _ {O F T W : Type 0} (f : files.Ghosts O F) (known : F → Option (List ℕ)) (d : databases.Ghosts O T) (t : store.Ghosts T Global) (contents : W → Option (List ℕ)) where
  -- under the policy, the port list's file is read, and then it is told what importing its bytes at the
  -- fabric would do
  abbrev pub TryImportComesIn : O → TryImport → PolicyRows → Result ℕ Fault → W → Result (W × End) Fault → Type 0
  TryImportComesIn outside asked policy moment writer came =
      Then (IsReadAt known (f.opens outside asked.file.now)) (λ bytes.
      Then (d.finds outside asked.access.db.now) (λ s.
      ComesTold t s moment (λ w m. TellsImport contents w policy asked.access.token.now m asked.fabric bytes asked.most_lost asked.is_json writer))) came

  -- the policy is read, and then that is told under it
  abbrev pub TryImportComes : O → TryImport → Result ℕ Fault → W → Result (W × End) Fault → Type 0
  TryImportComes outside asked moment writer came =
      Then (IsPolicyAt known (f.opens outside asked.access.policy.now)) (λ p. TryImportComesIn outside asked p moment writer) came

  -- the policy is read, the tables are opened, and then it is told what activating the plan would do
  abbrev pub DiffComes : O → Diff → Result ℕ Fault → W → Result (W × End) Fault → Type 0
  DiffComes outside asked moment writer came =
      Then (IsPolicyAt known (f.opens outside asked.access.policy.now)) (λ p.
      Then (d.finds outside asked.access.db.now) (λ s.
      ComesTold t s moment (λ w m. TellsPlan contents w p asked.access.token.now m asked.plan asked.is_json writer))) came
