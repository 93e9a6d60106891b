-- What serving connections comes to.
use Rattle.std.specs.Prelude.{ℕ, ◌≡◌, ◌<◌, ◌⊎◌, ⊤, List, length, Option, Some, None, Result, Ok, Err, OnOk, OnErr}
use Rattle.std.specs.declared.alloc.Global.{Global}
use Rattle.std.specs.declared.net.TcpListener.{TcpListener}
use Rattle.fab_policy_base.specs.Policies.{PolicyRows}
use Rattle.fab_files_base.specs.declared.printing.End.{End}
use Rattle.fab_files_base.specs.declared.printing.End.TheVariants.{Done}
use Rattle.fab_program_outside.specs.Coming.{Then}
use Rattle.fab_program_outside.specs.Contents.{IsPolicyAt}
use Rattle.fab_program_outside.specs.declared.faults.Fault.{Fault}
use Rattle.fab_program_outside.specs.declared.faults.Fault.TheVariants as fault
use Rattle.fab_program_outside.specs.declared.files.Files as files
use Rattle.fab_wire_streams.specs.Counting.{inner_of}
use Rattle.fab_wire_streams.specs.declared.counted.Counted.{Counted}
use Rattle.fab_wire_log.specs.Lasting.{most_lasting}
use Rattle.fab_wire_serving.specs.Turns.{AreTurns, most_turns}
use Rattle.fab_wire_serving.specs.declared.server.Server as server
use Rattle.fab_wire_serving.specs.declared.serving.ServeFault.{ServeFault}
use Rattle.fab_wire_serving.specs.declared.serving.ServeFault.TheVariants as serving
use Rattle.fab_wire.specs.declared.outcome.Outcome.{Outcome}
use Rattle.fab_store.specs.declared.OpenFault.{OpenFault}
use Rattle.fab_store.specs.declared.Store as store
use Rattle.fab_program_words.specs.declared.words.Serve.{Serve}
use Rattle.fab_program_desks.specs.Databases.{IsAgain, IsDeskOver}
use Rattle.fab_program_desks.specs.Desks.{ProgramDesk}
use Rattle.fab_program_desks.specs.declared.addresses.Addresses as addresses
use Rattle.fab_program_desks.specs.declared.database.Databases as databases

-- serving is done where as many connections were served as were asked for; else accepting one, or a clock, failed
abbrev pub served : {V : Type 0} → Result V ServeFault → Result End Fault
served (Ok none) = Ok Done
served (Err (serving.Listener error)) = Err fault.Listen
served (Err serving.NoClock) = Err fault.Clock

-- where the address can be listened at, it ends as serving ends there
abbrev pub EndsFrom : (Result (Unit {0}) ServeFault → Type 0) → Option TcpListener → Result End Fault → Type 0
EndsFrom Serves (Some listener) came = (ending : Result (Unit {0}) ServeFault) × Serves ending × (came ≡ served ending)
EndsFrom Serves None came = came ≡ Err fault.Listen

-- the address is listened at, and connections are served so
abbrev pub IsServedAt : (Option TcpListener → Type 0) → (Result (Unit {0}) ServeFault → Type 0) → Result End Fault → Type 0
IsServedAt Listens Serves came = (listener : Option TcpListener) × Listens listener × EndsFrom Serves listener came

-- how long a connection is given, in nanoseconds
abbrev pub connection_time : ℕ
connection_time = most_lasting

-- a front over a store; the log; what is answered where the store of a halted desk is to be opened anew; the moments that
-- are given; and how many connections are asked for
module _ {D S W : Type 0} (w : server.Ghosts D S OpenFault Outcome) (contents : W → Option (List ℕ)) (opens : Result S OpenFault → Type 0) (gives : Option ℕ → Type 0) (count : Option ℕ) where
  -- connections are served in turn, and each has its line in the log: as many as are asked for, and fewer where serving
  -- ends with a fault
  abbrev pub AreServed : D → W → Result (Unit {0}) ServeFault → Type 0
  AreServed front log ending = (begun : Counted W) × (inner_of begun ≡ log) × ((moments : List ℕ) × (last : D) × (noted : Counted W)
      × AreTurns w opens gives (λ time. ⊤) ⊤ contents connection_time front begun moments last noted
      × OnOk ending (length moments ≡ most_turns count) × OnErr ending (length moments < most_turns count))

  module _ (desk_of : D → ProgramDesk S) (Listens : Option TcpListener → Type 0) where
    -- there is memory for the routes, and connections are served by a front of the desk
    abbrev pub IsServedBy : ProgramDesk S → W → Result End Fault → Type 0
    IsServedBy d log came = (came ≡ Err fault.Memory) ⊎ ((front : D) × (desk_of front ≡ d) × IsServedAt Listens (AreServed front log) came)

    -- a desk is opened over a store, with the policy; and then the address is listened at
    abbrev pub IsServedOver : store.Ghosts S Global → S → PolicyRows → W → Result End Fault → Type 0
    IsServedOver g s policy log came = Then (IsDeskOver g s policy) (λ d. IsServedBy d log) came

module _ {O F T D W : Type 0} (f : files.Ghosts O F) (known : F → Option (List ℕ)) (d : databases.Ghosts O T) (a : addresses.Ghosts O) (t : store.Ghosts T Global)
    (w : server.Ghosts D T OpenFault Outcome) (desk_of : D → ProgramDesk T) (contents : W → Option (List ℕ)) (gives : Option ℕ → Type 0) where
  -- the policy is read; then the tables are opened, and a desk over them; then the address is listened at, and connections
  -- are served in turn. The store of a halted desk is opened anew at the same path.
  abbrev pub ComesServing : O → Serve → W → Result End Fault → Type 0
  ComesServing outside asked log came =
      Then (IsPolicyAt known (f.opens outside asked.policy.now)) (λ p.
      Then (d.finds outside asked.db.now) (λ s. IsServedOver w contents (IsAgain (d.finds outside asked.db.now)) gives asked.count desk_of (a.listens outside asked.listen.now) t s p log)) came
