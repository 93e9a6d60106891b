-- What serving connections in turn does to a server and to the log.
use Rattle.std.specs.Prelude.{ℕ, ◌≡◌, ◌⊎◌, ◌-◌, ◌^◌, List, [], ◌∷◌, true, false, Result, Ok, Err, Option, Some, None}
use Rattle.fab_wire_streams.specs.declared.counted.Counted.{Counted}
use Rattle.fab_wire_serving.specs.Coming.{CameSo, came_text}
use Rattle.fab_wire_deadlines.specs.Deadlines.{end_after}
use Rattle.fab_wire_log.specs.Lines.{line_text, Notes, Lasted}
use Rattle.fab_wire_serving.specs.Sides.{begun_sides}
use Rattle.fab_wire_serving.specs.declared.connection.Came.{Came}
use Rattle.fab_wire_serving.specs.declared.server.Server as server

-- how many connections are served: as many as are asked for, or as many as can be counted
abbrev pub most_turns : Option ℕ → ℕ
most_turns (Some count) = count
most_turns None = 2 ^ 64 - 1

-- a closure may answer so
abbrev pub Gives : {F R : Type 0} → (F → R → F → Type 0) → R → Type 0
Gives {F} step answer = (before : F) × (after : F) × step before answer after

-- a server, and what is answered where a store is to be opened
module _ {S Store Fault Outcome : Type 0} (g : server.Ghosts S Store Fault Outcome) (opens : Result Store Fault → Type 0) where
  -- a released server was opened over a store; or it stands as it was: no store was opened, or it was
  -- refused over the store
  abbrev pub IsReopened : S → S → Type 0
  IsReopened s t = ((store : Store) × opens (Ok store) × g.reopens s store t)
      ⊎ (((fault : Fault) × opens (Err fault) × (t ≡ s))
      ⊎ ((store : Store) × (fault : Fault) × opens (Ok store) × g.refuses s store fault × (t ≡ s)))

  -- a server that is not halted stands as it was; a halted one was released, and then opened anew if
  -- that could be
  abbrev pub IsRestored : S → S → Type 0
  IsRestored s t = ((g.is_halted s ≡ false) × (t ≡ s))
      ⊎ ((g.is_halted s ≡ true) × ((released : S) × g.releases s released × IsReopened released t))

  -- the moments that are given, what the clock tells and whether it may fail, what the log has taken, and how many
  -- nanoseconds a connection may last
  module _ {W : Type 0} (gives : Option ℕ → Type 0) (tells : ℕ → Type 0) (fails : Type 0) (contents : W → Option (List ℕ)) (most : ℕ) where
    -- a connection over a socket, which tells no bytes, is served at a moment; its time begins at a reading of the clock
    abbrev pub IsServedInTime : S → ℕ → Came Outcome → S → Type 0
    IsServedInTime s moment came t = (began : ℕ) × tells began × CameSo (λ outcome after. g.serves s moment (begun_sides None None (end_after began most)) after outcome t) came

    -- the line of a connection, which says for how long it lasted since a reading of the clock
    abbrev pub IsNoted : Counted W → ℕ → Came Outcome → Counted W → Type 0
    IsNoted old moment came new = (start : ℕ) × tells start × ((milliseconds : ℕ) × Lasted tells fails start milliseconds
        × Notes contents old new (line_text moment (came_text g.shows came) milliseconds))

    -- one connection, at a moment that is given; the server was restored before, and the log has its line
    abbrev pub IsTurn : S → Counted W → ℕ → S → Counted W → Type 0
    IsTurn s log moment t log' = gives (Some moment) × ((restored : S) × (came : Came Outcome)
        × IsRestored s restored × IsServedInTime restored moment came t × IsNoted log moment came log')

    -- one connection after the other, at these moments
    abbrev pub AreTurns : S → Counted W → List ℕ → S → Counted W → Type 0
    AreTurns s log [] t log' = (t ≡ s) × (log' ≡ log)
    AreTurns s log (moment ∷ moments) t log' = (next : S) × (between : Counted W) × IsTurn s log moment next between × AreTurns next between moments t log'
