-- What an import or a plan would do, over a store.
use Rattle.std.specs.Prelude.{ℕ, ◌≡◌, ◌⊎◌, List, Bool, Option, Result, Err}
use Rattle.std.specs.declared.alloc.Global.{Global}
use Rattle.fab_files_base.specs.declared.printing.End.{End}
use Rattle.fab_policy_base.specs.Policies.{PolicyRows}
use Rattle.fab_program_looks.specs.Loading.{IsLoaded}
use Rattle.fab_program_outside.specs.Coming.{After, Then}
use Rattle.fab_program_outside.specs.declared.faults.Fault.{Fault}
use Rattle.fab_program_outside.specs.declared.faults.Fault.TheVariants as fault
use Rattle.fab_program_looks.specs.Told.{TellsImport, TellsPlan}
use Rattle.fab_program_looks.specs.declared.tries.Asked.{Asked}
use Rattle.fab_program_looks.specs.declared.tries.Trial.{Trial}
use Rattle.fab_program_looks.specs.declared.tries.Trial.TheVariants as trial
use Rattle.fab_store_base.specs.declared.store.Store as store
use Rattle.fab_world.specs.Worlds.{WorldRows}

module _ {W : Type 0} (contents : W → Option (List ℕ)) where
  -- what the caller is told who has it tried
  abbrev pub TriesAs : WorldRows → PolicyRows → List ℕ → ℕ → Trial → Bool → W → Result (W × End) Fault → Type 0
  TriesAs w p token moment (trial.Import fabric bytes most) json writer came = TellsImport contents w p token moment fabric bytes.now most json writer came
  TriesAs w p token moment (trial.Plan plan) json writer came = TellsPlan contents w p token moment plan json writer came

-- there was no memory for a book of the paths; or it is told
abbrev pub IsToldAt : {Y : Type 0} → (Result Y Fault → Type 0) → Result Y Fault → Type 0
IsToldAt Tells came = (came ≡ Err fault.Memory) ⊎ Tells came

module _ {S Y : Type 0} (g : store.Ghosts S Global) where
  -- the store is read, which changes nothing of it; then there is a moment; and then it is told at its world
  abbrev pub ComesToldIn : (before after : S) → Result ℕ Fault → (WorldRows → ℕ → Result Y Fault → Type 0) → Result Y Fault → Type 0
  ComesToldIn before after moment Tells came = Then (IsLoaded g before after) (λ w. After moment (λ m. IsToldAt (Tells w m))) came

  -- and the store is let go of
  abbrev pub ComesTold : S → Result ℕ Fault → (WorldRows → ℕ → Result Y Fault → Type 0) → Result Y Fault → Type 0
  ComesTold s moment Tells came = (after : S) × ComesToldIn s after moment Tells came

module _ {S W : Type 0} (g : store.Ghosts S Global) (contents : W → Option (List ℕ)) where
  -- what is asked for is told so
  abbrev pub TriesIn : (before after : S) → PolicyRows → Asked → W → Result (W × End) Fault → Type 0
  TriesIn before after p asked writer came = ComesToldIn g before after asked.moment (λ w m. TriesAs contents w p asked.token.now m asked.trial asked.is_json writer) came

  abbrev pub TriesOver : S → PolicyRows → Asked → W → Result (W × End) Fault → Type 0
  TriesOver s p asked writer came = ComesTold g s asked.moment (λ w m. TriesAs contents w p asked.token.now m asked.trial asked.is_json writer) came
