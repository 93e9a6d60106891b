-- A look at the world of a store.
use Rattle.std.specs.Prelude.{ℕ, ◌⊎◌, List, Bool, Option, Result}
use Rattle.std.specs.declared.alloc.Global.{Global}
use Rattle.fab_desk_base.specs.Answers.{IsNobodys}
use Rattle.fab_files_base.specs.declared.printing.End.{End}
use Rattle.fab_policy_base.specs.Callers.{IsOnlyWith}
use Rattle.fab_policy_base.specs.Policies.{PolicyRows}
use Rattle.fab_program_looks.specs.Lists.{TellsList}
use Rattle.fab_program_looks.specs.Loading.{IsLoaded}
use Rattle.fab_program_looks.specs.Telling.{IsTurnedAway, TellsPort, TellsWay, TellsWho}
use Rattle.fab_program_looks.specs.declared.looks.Asked.{Asked}
use Rattle.fab_program_looks.specs.declared.looks.Look.{Look}
use Rattle.fab_program_looks.specs.declared.looks.Look.TheVariants as look
use Rattle.fab_program_outside.specs.Coming.{Then}
use Rattle.fab_program_outside.specs.declared.faults.Fault.{Fault}
use Rattle.fab_store_base.specs.declared.store.Store as store
use Rattle.fab_world.specs.Worlds.{WorldRows}

module _ {W : Type 0} (contents : W → Option (List ℕ)) where
  -- what the caller is told who looks
  abbrev pub LooksAs : WorldRows → PolicyRows → ℕ → Look → Bool → W → Result (W × End) Fault → Type 0
  LooksAs w p id (look.Why host volume) json writer came = TellsWay contents w p id host volume json writer came
  LooksAs w p id (look.Who volume) json writer came = TellsWho contents w p id volume json writer came
  LooksAs w p id (look.Port port) json writer came = TellsPort contents w p id port json writer came
  LooksAs w p id (look.List kind state) json writer came = TellsList contents w p id kind state json writer came

  -- nobody has the token; or somebody has it, and looks
  abbrev pub LooksAt : WorldRows → PolicyRows → Asked → W → Result (W × End) Fault → Type 0
  LooksAt w p asked writer came = (IsNobodys p asked.token.now × IsTurnedAway contents writer came) ⊎ ((id : ℕ) × IsOnlyWith p asked.token.now id × LooksAs w p id asked.look asked.is_json writer came)

module _ {S W : Type 0} (g : store.Ghosts S Global) (contents : W → Option (List ℕ)) where
  -- the store is read, which changes nothing of it, and then the caller looks at its world
  abbrev pub LooksIn : (before after : S) → PolicyRows → Asked → W → Result (W × End) Fault → Type 0
  LooksIn before after p asked writer came = Then (IsLoaded g before after) (λ w. LooksAt contents w p asked writer) came

  -- and the store is let go of
  abbrev pub LooksOver : S → PolicyRows → Asked → W → Result (W × End) Fault → Type 0
  LooksOver s p asked writer came = (after : S) × LooksIn s after p asked writer came
