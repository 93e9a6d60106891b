-- Tables brought to the present schema, and those of a new desk: how they are found and made, and why they are not.
use Rattle.std.specs.Prelude.{ℕ, ◌≡◌, ◌⊎◌, [], Bool, true, false, Result, Ok, Err, IfOk, IsTrue}
use Rattle.sqlite.specs.Files.{file_state, IsOpened}
use Rattle.sqlite.specs.Held.{Held}
use Rattle.sqlite.specs.State.{State, HasCleanDisk}
use Rattle.sqlite.specs.declared.error.Error.{Error}
use Rattle.sqlite.specs.declared.error.Error.TheVariants.{SqliteFailure}
use Rattle.sqlite.specs.declared.error.ErrorCode.TheVariants as code
use Rattle.sqlite_disk.specs.declared.Disk as disk
use Rattle.sqlite_store.specs.declared.store.FileStore.{FileStore}
use Rattle.fab_store.specs.Laws.{Leaves}
use Rattle.fab_store.specs.declared.OpenFault.{OpenFault}
use Rattle.fab_store.specs.fab_store_base.Calls.{IsCounted, MigratesNot, Rises}
use Rattle.fab_store_migration.specs.Migrations.{IsKnown, IsOld}
use Rattle.fab_store_sql.specs.Trees.{tables_of}
use Rattle.fab_store_sql.specs.NewDesk.{IsNewDesk}
use Rattle.fab_store_tables.specs.Tables.{Tables}
use Rattle.fab_store_tables.specs.Versions.{IsMigrated}
use Rattle.fab_program_outside.specs.Faults.{fault_of_opening}
use Rattle.fab_program_outside.specs.declared.faults.Fault.{Fault}
use Rattle.fab_program_outside.specs.declared.faults.Fault.TheVariants as fault

-- ---- a file that is opened as a database

-- it cannot be opened, there was no memory, or else the store refused
abbrev pub opened_fault : Error → Fault
opened_fault (SqliteFailure code.CannotOpen) = fault.File
opened_fault (SqliteFailure code.OutOfMemory) = fault.Memory
opened_fault other = fault.Store

module _ {D : Type 0} (g : disk.Ghosts D) where
  -- a connection that was opened is to a database, unless a wrong answer of the disk was taken as true
  abbrev pub IsConnected : Result (Held (FileStore D g)) Error → Type 0
  IsConnected came = IfOk came (λ conn. HasCleanDisk (file_state conn) → IsOpened conn)

module _ {H : Type 0} (Connects : Result H Error → Type 0) where
  -- why a file was not opened as a database: the error says it
  abbrev pub IsUnopened : Fault → Type 0
  IsUnopened told = (error : Error) × Connects (Err error) × (told ≡ opened_fault error)

-- ---- tables brought to the present schema

-- a stop leaves what it would have left before, or the tables of schema 1 brought to the present schema
abbrev pub MayLeaveBrought : (before after : State) → Type 0
MayLeaveBrought before after = (left : Tables) → Leaves after.may_leave left
    → Leaves before.may_leave left ⊎ (IsOld before × IsMigrated (tables_of before.now.trees) left)

-- the tables are those of before, and not of schema 1; or they were, and were brought to the present schema
pub record IsBrought (before after : State) : Type 0 where
  pub tables : (¬ IsOld before × (IsTrue after.is_open → IsTrue before.is_open × (tables_of after.now.trees ≡ tables_of before.now.trees)))
      ⊎ (IsOld before × IsTrue after.is_open × IsMigrated (tables_of before.now.trees) (tables_of after.now.trees))
  pub stop : MayLeaveBrought before after

-- why the tables were not brought to the present schema: they are those of before; and the count of
-- refused calls rose just where the store refused
pub record IsUnbrought (before after : State) (old new : ℕ) (told : Fault) : Type 0 where
  pub why : OpenFault
  pub is : told ≡ fault_of_opening why
  pub counted : IsCounted old new why
  pub same : HasCleanDisk after → IsTrue after.is_open → IsTrue before.is_open × (tables_of after.now.trees ≡ tables_of before.now.trees)
  pub holds : HasCleanDisk after → IsKnown before.now.schema → MigratesNot (tables_of before.now.trees) why
  pub stop : HasCleanDisk after → MayLeaveBrought before after

-- ---- the tables of a new desk

-- a stop leaves what it would have left before, or the tables of a new desk
abbrev pub MayLeaveMade : (before after : State) → Type 0
MayLeaveMade before after = (left : Tables) → Leaves after.may_leave left → Leaves before.may_leave left ⊎ IsNewDesk left

-- there was no table, and there are those of a new desk now
pub record IsMadeIn (before after : State) : Type 0 where
  pub fresh : before.now.schema.tables ≡ []
  pub tables : HasCleanDisk after → HasCleanDisk before × IsNewDesk (tables_of after.now.trees)
  pub stop : HasCleanDisk after → MayLeaveMade before after

-- the store refused, which was counted: all is as it was before
pub record IsUnmade (before after : State) (old new : ℕ) (told : Fault) : Type 0 where
  pub is : told ≡ fault.Store
  pub counted : Rises old new
  pub same : HasCleanDisk after → IsTrue after.is_open → IsTrue before.is_open × (after.now ≡ before.now)
  pub stop : HasCleanDisk after → MayLeaveMade before after

-- ---- over a connection

module _ {H : Type 0} (state_of : H → State) (Opened : H → Type 0) where
  -- a connection of which this holds is the one before, and its tables were brought to the present schema
  abbrev pub AreBroughtFrom : H → Type 0
  AreBroughtFrom after = (before : H) × Opened before × (HasCleanDisk (state_of after) → HasCleanDisk (state_of before) × IsBrought (state_of before) (state_of after))

  -- a connection of which this holds is the one before, and its tables were not brought to the present schema
  abbrev pub AreUnbroughtFrom : Fault → Type 0
  AreUnbroughtFrom told = (before : H) × Opened before × ((after : H) × (refused : ℕ) × IsUnbrought (state_of before) (state_of after) 0 refused told)

  -- a connection of which this holds is the one before, and the tables of a new desk were made there
  abbrev pub AreMadeFrom : H → Type 0
  AreMadeFrom after = (before : H) × Opened before × IsMadeIn (state_of before) (state_of after)

  -- a connection of which this holds is the one before, and no tables were made there
  abbrev pub AreUnmadeFrom : Fault → Type 0
  AreUnmadeFrom told = (before : H) × Opened before × ((after : H) × (refused : ℕ) × IsUnmade (state_of before) (state_of after) 0 refused told)

-- ---- in memory

-- what came of making the tables of a new desk in memory: there they are; or there was no memory for them, or
-- the store refused
abbrev pub AreNewTables : {H T : Type 0} → (H → State) → Result T Fault → (T → H) → Type 0
AreNewTables state_of (Ok tables) conn_of = HasCleanDisk (state_of (conn_of tables)) → IsNewDesk (tables_of (state_of (conn_of tables)).now.trees)
AreNewTables state_of (Err told) conn_of = (told ≡ fault.Memory) ⊎ (told ≡ fault.Store)

-- ---- in a file

module _ {H : Type 0} (state_of : H → State) (HasFile : Bool → Type 0) (Connects : Result H Error → Type 0) where
  -- a file was there and was opened as a database, and its tables were brought to the present schema
  abbrev pub AreFound : H → Type 0
  AreFound after = HasFile true × AreBroughtFrom state_of (λ before. Connects (Ok before)) after

  -- no file was there that can be opened; it was not opened as a database; or its tables were not brought
  -- to the present schema
  abbrev pub AreUnfound : Fault → Type 0
  AreUnfound told =
      (HasFile false × (told ≡ fault.File))
      ⊎ (HasFile true × (IsUnopened Connects told ⊎ AreUnbroughtFrom state_of (λ before. Connects (Ok before)) told))

module _ {H : Type 0} (state_of : H → State) (Connects : Result H Error → Type 0) where
  -- a file was opened as a database, and the tables of a new desk were made there
  abbrev pub AreMade : H → Type 0
  AreMade after = AreMadeFrom state_of (λ before. Connects (Ok before)) after

  -- it was not opened as a database; or no tables were made there
  abbrev pub AreUnmade : Fault → Type 0
  AreUnmade told = IsUnopened Connects told ⊎ AreUnmadeFrom state_of (λ before. Connects (Ok before)) told
