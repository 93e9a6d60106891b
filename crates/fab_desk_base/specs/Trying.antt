-- What the records say of a command, the limits on paths and on changes aside: relations of the calls
-- that try a command. What refuses it and what it makes is said by `Refusals`.
use Rattle.std.specs.Prelude.{ℕ, ◌<◌, List}
use Rattle.fab_world.specs.Soundness.{IsSound}
use Rattle.fab_world.specs.Worlds.{WorldRows}
use Rattle.fab_desk_base.specs.Effects.{Makes}
use Rattle.fab_desk_base.specs.Refusals.{Check, few_paths, place_of, Fails, HasManyPaths, IsFirstFault, MayCount}
use Rattle.fab_desk_base.specs.declared.command.Command.{Command}
use Rattle.fab_desk_base.specs.declared.fault.DeskFault.{DeskFault}
use Rattle.fab_desk_base.specs.declared.fault.DeskFault.TheVariants.{Memory}

-- the check comes before those on paths and on changes
abbrev pub IsOfRecords : Check → Type 0
IsOfRecords k = place_of k < place_of few_paths

-- no check of the command fails but for the limits on paths and on changes, and this is what it makes
pub record IsMade {A : Type 0} (w : WorldRows) (caller : List ℕ) (c : Command A) (new : WorldRows) : Type 0 where
  pub passes : (k : Check) (q : DeskFault) → IsOfRecords k → ¬ Fails w caller c k q
  pub makes : Makes w caller c new

-- the world after the command is sound where the one before is, and no limit is passed
abbrev pub StaysSound : {A : Type 0} → WorldRows → Command A → WorldRows → Type 0
StaysSound w c new = IsSound w → ¬ HasManyPaths new → MayCount w c → IsSound new

-- why a command that is tried makes nothing: the first check that fails, or want of memory
abbrev pub IsTryFault : {A : Type 0} → WorldRows → List ℕ → Command A → DeskFault → Type 0
IsTryFault w caller c Memory = Unit {0}
IsTryFault w caller c r = IsFirstFault w caller c r
