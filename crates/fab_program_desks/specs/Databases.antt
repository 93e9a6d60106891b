-- Desks over the tables of databases.
use Rattle.std.specs.Prelude.{◌≡◌, ◌⊎◌, Result, Ok, Err}
use Rattle.std.specs.declared.alloc.Global.{Global}
use Rattle.fab_policy_base.specs.Policies.{PolicyRows}
use Rattle.fab_program_outside.specs.Faults.{fault_of_opening}
use Rattle.fab_program_outside.specs.Coming.{Then}
use Rattle.fab_program_outside.specs.Contents.{IsFree, IsUsed}
use Rattle.fab_program_outside.specs.declared.faults.Fault.{Fault}
use Rattle.fab_program_outside.specs.declared.faults.Fault.TheVariants as fault
use Rattle.fab_program_outside.specs.declared.files.Size.{Size}
use Rattle.fab_store.specs.declared.OpenFault.{OpenFault}
use Rattle.fab_store.specs.declared.OpenFault.TheVariants as opening
use Rattle.fab_store.specs.declared.Store as store
use Rattle.fab_wire.specs.Desks.{IsOpened, IsUnopened}
use Rattle.fab_wire.specs.Handled.{policy_of, serving_of, world_of}
use Rattle.fab_program_desks.specs.Desks.{ProgramDesk}

-- why tables are not opened again: there was no memory, or else the store is said to refuse
abbrev pub fault_of_again : Fault → OpenFault
fault_of_again fault.Memory = opening.Memory
fault_of_again other = opening.Store

-- tables are found, and opened again
abbrev pub IsAgain : {T : Type 0} → (Result T Fault → Type 0) → Result T OpenFault → Type 0
IsAgain Finds (Ok tables) = Finds (Ok tables)
IsAgain Finds (Err why) = (fault : Fault) × Finds (Err fault) × (why ≡ fault_of_again fault)

-- tables are made where nothing is, or an empty file; else nothing is done
abbrev pub IsMade : {T : Type 0} → (Size → Type 0) → (Result T Fault → Type 0) → Result (Unit {0}) Fault → Type 0
IsMade Measures Makes came =
    (IsUsed Measures × (came ≡ Err fault.File)) ⊎ (IsFree Measures × Then Makes (λ tables made. made ≡ Ok tt) came)

module _ {S : Type 0} (g : store.Ghosts S Global) where
  -- what opening a desk over a store comes to: one that has the policy; or a fault, which says why there is none
  abbrev pub IsDeskOver : S → PolicyRows → Result (ProgramDesk S) Fault → Type 0
  IsDeskOver s policy (Ok d) = (policy_of d ≡ policy) × IsOpened g s (serving_of d) (world_of d)
  IsDeskOver s policy (Err fault) = (why : OpenFault) × (after : S) × IsUnopened g s why after × (fault ≡ fault_of_opening why)
