-- A beginning of an input that tells what all of it asks.
use Rattle.std.specs.Prelude.{ℕ, List, ◌++◌, Some}
use Rattle.fab_desk.specs.fab_store_base.declared.store.Store as store
use Rattle.fab_wire_base.specs.Whole.{IsWhole}
use Rattle.fab_desk.specs.Handled.{policy_of}
use Rattle.fab_wire.specs.Known.{is_known}
use Rattle.fab_wire.specs.Serving.{Side, side, Serves}
use Rattle.fab_desk.specs.declared.desk.Desk.{Desk}
use Rattle.fab_wire.specs.declared.outcome.Outcome.{Outcome}

-- a connection of which these bytes have come, and which is whole by them, is served as one of which more comes
abbrev pub BeginningsServe : {A S B R : Type 0} → store.Ghosts S A → Desk A S B R → Type 0
BeginningsServe {A} {S} {B} {R} g d = (bytes more : List ℕ) (failures : ℕ) (input' sent sent' : Side) (moment : ℕ) (outcome : Outcome) (e : Desk A S B R)
    → IsWhole (is_known (policy_of d)) bytes
    → Serves g (side (Some bytes) failures) input' sent sent' d moment outcome e
    → Serves g (side (Some (bytes ++ more)) failures) input' sent sent' d moment outcome e
