-- Serving over a desk, where more is allowed of how its store is opened anew.
use Rattle.std.proofs.Common.{ℕ, List, [], ◌∷◌, Option, Some, None, Result, Ok, Err, inl, inr}
use Rattle.std.specs.Bool.{⊤}
use Rattle.std.specs.declared.net.TcpListener.{TcpListener}
use Rattle.fab_files_base.specs.declared.printing.End.{End}
use Rattle.fab_program_outside.specs.Coming.{After}
use Rattle.fab_program_outside.specs.declared.faults.Fault.{Fault}
use Rattle.fab_wire_streams.specs.declared.counted.Counted.{Counted}
use Rattle.fab_wire_serving.specs.Turns.{AreTurns, IsReopened, IsRestored}
use Rattle.fab_wire_serving.specs.declared.server.Server as server
use Rattle.fab_wire_serving.specs.declared.serving.ServeFault.{ServeFault}
use Rattle.fab_wire.specs.declared.outcome.Outcome.{Outcome}
use Rattle.fab_store.specs.declared.OpenFault.{OpenFault}
use Rattle.fab_program_desks.specs.Desks.{ProgramDesk}
use Rattle.fab_program_desks.specs.Servings.{AreServed, EndsFrom, IsServedBy, connection_time}

module _ {D S W : Type 0} (w : server.Ghosts D S OpenFault Outcome) (contents : W → Option (List ℕ)) (opens finds : Result S OpenFault → Type 0) (is_found : (again : Result S OpenFault) → opens again → finds again) (gives : Option ℕ → Type 0) (count : Option ℕ) where
  reopened : (s t : D) → IsReopened w opens s t → IsReopened w finds s t
  reopened s t (inl h) = inl (h.0, is_found (Ok h.0) h.1, h.2)
  reopened s t (inr (inl h)) = inr (inl (h.0, is_found (Err h.0) h.1, h.2))
  reopened s t (inr (inr h)) = inr (inr (h.0, h.1, is_found (Ok h.0) h.2, h.3, h.4))

  restored : (s t : D) → IsRestored w opens s t → IsRestored w finds s t
  restored s t (inl h) = inl h
  restored s t (inr h) = inr (h.0, (h.1.0, h.1.1, reopened h.1.0 t h.1.2))

  turns : (moments : List ℕ) (s : D) (log : Counted W) (t : D) (after : Counted W)
      → AreTurns w opens gives (λ time. ⊤) ⊤ contents connection_time s log moments t after
      → AreTurns w finds gives (λ time. ⊤) ⊤ contents connection_time s log moments t after
  turns [] s log t after h = h
  turns (moment ∷ moments) s log t after h =
      (h.0, h.1, (h.2.0, (h.2.1.0, h.2.1.1, restored s h.2.1.0 h.2.1.2, h.2.1.3, h.2.1.4)), turns moments h.0 h.1 t after h.3)

  served : (front : D) (log : W) (ending : Result (Unit {0}) ServeFault) → AreServed w contents opens gives count front log ending → AreServed w contents finds gives count front log ending
  served front log ending h = (h.0, h.1, (h.2.0, h.2.1, h.2.2, turns h.2.0 front h.0 h.2.1 h.2.2 h.2.3, h.2.4, h.2.5))

  ends : (front : D) (log : W) (listener : Option TcpListener) (came : Result End Fault) → EndsFrom (AreServed w contents opens gives count front log) listener came → EndsFrom (AreServed w contents finds gives count front log) listener came
  ends front log None came h = h
  ends front log (Some listener) came h = (h.0, served front log h.0 h.1, h.2)

  module _ (desk_of : D → ProgramDesk S) (Listens : Option TcpListener → Type 0) where
    by_desk : (d : ProgramDesk S) (log : W) (came : Result End Fault) → IsServedBy w contents opens gives count desk_of Listens d log came → IsServedBy w contents finds gives count desk_of Listens d log came
    by_desk d log came (inl e) = inl e
    by_desk d log came (inr h) = inr (h.0, h.1, (h.2.0, h.2.1, ends h.0 log h.2.0 came h.2.2))

    pub after_desk : (first : Result (ProgramDesk S) Fault) (log : W) (came : Result End Fault) → After first (λ d. IsServedBy w contents opens gives count desk_of Listens d log) came → After first (λ d. IsServedBy w contents finds gives count desk_of Listens d log) came
    after_desk (Ok d) log came h = by_desk d log came h
    after_desk (Err fault) log came h = h
