-- Why a host reaches a volume, as a caller is told.
use Rattle.std.specs.Prelude.{ℕ, List}
use Rattle.std.specs.FinMap as map
use Rattle.fab_reach_base.specs.fab_inventory.declared.holder.HolderKind.TheVariants as kind
use Rattle.fab_policy.specs.fab_policy_base.Policies.{PolicyRows}
use Rattle.fab_reach_base.specs.Records.{Records}
use Rattle.fab_world.specs.Worlds.{WorldRows, records_of}
use Rattle.fab_desk_base.specs.Showing.{IsOpenTo}
use Rattle.fab_desk_base.specs.declared.command.Query.TheVariants as query
use Rattle.fab_looks.specs.Links.{IsExplained}
use Rattle.fab_looks.specs.declared.explaining.Why.{Why}
use Rattle.fab_looks.specs.declared.explaining.Why.TheVariants as why
use Rattle.fab_looks.specs.declared.link.Link.TheVariants as link

-- the records without this holder
abbrev pub without_holder : Records → List ℕ → Records
without_holder w host = record w { inventory = record w.inventory { holders = map.remove w.inventory.holders host } }

-- the records without this volume
abbrev pub without_volume : Records → List ℕ → Records
without_volume w volume = record w { inventory = record w.inventory { volumes = map.remove w.inventory.volumes volume } }

-- the host is the caller's
abbrev pub SeesHost : PolicyRows → WorldRows → ℕ → List ℕ → Type 0
SeesHost p w id host = IsOpenTo p w id (query.Holder kind.Host host)

-- the volume is the caller's
abbrev pub SeesVolume : PolicyRows → WorldRows → ℕ → List ℕ → Type 0
SeesVolume p w id volume = IsOpenTo p w id (query.Volume volume)

-- the answer of the world, where both are the caller's; else that of the world without the host, or
-- without the volume, that is not
pub record IsTold {A : Type 0} (p : PolicyRows) (w : WorldRows) (id : ℕ) (host volume : List ℕ) (answer : Why A) : Type 0 where
  pub both : SeesHost p w id host → SeesVolume p w id volume → IsExplained (records_of w) host volume answer
  pub no_host : ¬ SeesHost p w id host → IsExplained (without_holder (records_of w) host) host volume answer
  pub no_volume : SeesHost p w id host → ¬ SeesVolume p w id volume → IsExplained (without_volume (records_of w) volume) host volume answer

-- an answer, where the volume is as if it was not there
abbrev pub untold : {A : Type 0} → Why A → Why A
untold (why.Missing link.Host) = why.Missing link.Host
untold (why.Missing link.Login) = why.Missing link.Login
untold _ = why.Missing link.Volume
