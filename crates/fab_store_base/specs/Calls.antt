-- What a call of a store tells where it gives nothing.
use Rattle.std.specs.Prelude.{◌≡◌, ◌≢◌, ◌⊎◌, ◌<◌, ◌+◌, ◌^◌, ◌-◌, min, ℕ}
use Rattle.fab_store_world.specs.Standing.{HaveRows}
use Rattle.fab_store_rows.specs.Schemas.{present_schema}
use Rattle.fab_store_load.specs.declared.fault.Table.TheVariants.{Meta}
use Rattle.fab_store_tables.specs.Tables.{Tables}
use Rattle.fab_store_tables.specs.Versions.{TellsVersion}
use Rattle.fab_world.specs.Soundness.{IsSound}
use Rattle.fab_world.specs.Worlds.{WorldRows}
use Rattle.fab_store_load.specs.declared.fault.OpenFault.{OpenFault}
use Rattle.fab_store_load.specs.declared.fault.OpenFault.TheVariants.{Damaged, NewerSchema, OldSchema, Store, Memory}
use Rattle.fab_store_base.specs.Worlds.{HoldsWorld, IsWritten}

-- the count of refused calls rises by one; at its greatest value it stays
abbrev pub Rises : ℕ → ℕ → Type 0
Rises old new = new ≡ min (old + 1) (2 ^ 64 - 1)

-- a refused call is counted, and nothing else is
abbrev pub IsCounted : ℕ → ℕ → OpenFault → Type 0
IsCounted old new Store = Rises old new
IsCounted old new _ = new ≡ old

-- a schema that is not this one; there never was a schema 0
abbrev pub IsOtherSchema : ℕ → Type 0
IsOtherSchema n = (n ≢ 0) × (n ≢ present_schema)

-- no other schema is told, and no sound world whose rows are all written in lines has the rows; or a
-- newer schema is told, or an older one
abbrev pub OpensNot : Tables → OpenFault → Type 0
OpensNot t (Damaged table) = ((n : ℕ) → TellsVersion t n → ¬ IsOtherSchema n) × ((w : WorldRows) → IsWritten w → HaveRows w → HoldsWorld t w → ¬ IsSound w)
OpensNot t (NewerSchema n) = TellsVersion t n × (present_schema < n)
OpensNot t (OldSchema n) = TellsVersion t n × (n < present_schema)
OpensNot t Store = Unit {0}
OpensNot t Memory = Unit {0}

-- a newer schema is told, or none that ever was
abbrev pub MigratesNot : Tables → OpenFault → Type 0
MigratesNot t (Damaged table) = (table ≡ Meta) × (((n : ℕ) → ¬ TellsVersion t n) ⊎ TellsVersion t 0)
MigratesNot t (NewerSchema n) = TellsVersion t n × (present_schema < n)
MigratesNot t (OldSchema n) = ⊥
MigratesNot t Store = Unit {0}
MigratesNot t Memory = Unit {0}
