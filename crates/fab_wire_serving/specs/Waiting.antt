-- Turns whose lines are not in the log yet.
use Rattle.std.specs.Prelude.{ℕ, ◌≡◌, ◌+◌, List, [], ◌∷◌, ◌++◌, length, Result, Option, Some}
use Rattle.std.specs.Time.{instant_nanos}
use Rattle.fab_wire_streams.specs.declared.counted.Counted.{Counted}
use Rattle.fab_wire_log.specs.Pending.{IsTimed, Advances}
use Rattle.fab_wire_log.specs.Shown.{shown_text}
use Rattle.fab_wire_log.specs.declared.pending.Line.{Line}
use Rattle.fab_wire_serving.specs.Coming.{came_text}
use Rattle.fab_wire_serving.specs.Turns.{IsRestored, IsServedInTime, AreTurns}
use Rattle.fab_wire_serving.specs.declared.connection.Came.{Came}
use Rattle.fab_wire_serving.specs.declared.server.Server as server

module _ {S Store Fault Outcome W : Type 0} (g : server.Ghosts S Store Fault Outcome) (opens : Result Store Fault → Type 0)
    (gives : Option ℕ → Type 0) (tells : ℕ → Type 0) (fails : Type 0) (contents : W → Option (List ℕ)) (most : ℕ) where
  -- a turn, but for its line
  abbrev pub IsPlayed : S → ℕ → List ℕ → S → Type 0
  IsPlayed s moment text t = gives (Some moment) × ((restored : S) × (came : Came Outcome)
      × IsRestored g opens s restored × IsServedInTime g opens gives tells fails contents most restored moment came t × (text ≡ came_text g.shows came))

  -- a turn whose line waits
  abbrev pub IsWaiting : S → Line → S → Type 0
  IsWaiting s line t = IsPlayed s line.moment (shown_text line.shown) t × tells (instant_nanos line.start) × IsTimed tells fails line

  -- one behind the other
  abbrev pub AreWaiting : S → List Line → S → Type 0
  AreWaiting s [] t = t ≡ s
  AreWaiting s (line ∷ lines) t = (next : S) × IsWaiting s line next × AreWaiting next lines t

  -- so many turns: those whose lines the log has, and those whose lines wait
  abbrev pub ArePlayed : S → Counted W → ℕ → S → Counted W → List Line → Type 0
  ArePlayed s log count t log' lines = (moments : List ℕ) × (middle : S)
      × AreTurns g opens gives tells fails contents most s log moments middle log' × AreWaiting middle lines t × (length moments + length lines ≡ count)

  -- the lines advance, a turn is played whose line comes behind them, and the lines advance
  abbrev pub IsTurnTaken : S → Counted W → List Line → S → Counted W → List Line → Type 0
  IsTurnTaken s log lines t log' lines' = (between : Counted W) × (others : List Line) × (line : Line)
      × Advances tells fails contents log lines between others × IsWaiting s line t × Advances tells fails contents between (others ++ line ∷ []) log' lines'
