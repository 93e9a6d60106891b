-- What settings tell of the schema, and why tables are not brought to the present one.
use Rattle.std.specs.Prelude.{◌≡◌, ◌⊎◌, ◌<◌, ℕ, Option, None, Some}
use Rattle.fab_store_rows.specs.Schemas.{present_schema}
use Rattle.fab_store_tables.specs.Tables.{Tables}
use Rattle.fab_store_tables.specs.Versions.{TellsVersion}
use Rattle.fab_store_migration.specs.declared.judging.MigrationFault.{MigrationFault}
use Rattle.fab_store_migration.specs.declared.judging.MigrationFault.TheVariants.{NewerSchema, NoSchema, Store, Memory}

-- the schema before the present one is told
abbrev pub IsOlder : Option ℕ → Type 0
IsOlder told = told ≡ Some 1

-- a newer schema is told, or none that ever was
abbrev pub IsRefused : Option ℕ → MigrationFault → Type 0
IsRefused told (NewerSchema n) = (told ≡ Some n) × (present_schema < n)
IsRefused told NoSchema = (told ≡ None) ⊎ (told ≡ Some 0)
IsRefused told Store = Unit {0}
IsRefused told Memory = Unit {0}

-- the same, as the tables tell it
abbrev pub MigratesNot : Tables → MigrationFault → Type 0
MigratesNot t (NewerSchema n) = TellsVersion t n × (present_schema < n)
MigratesNot t NoSchema = ((n : ℕ) → ¬ TellsVersion t n) ⊎ TellsVersion t 0
MigratesNot t Store = Unit {0}
MigratesNot t Memory = Unit {0}
