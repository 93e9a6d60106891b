-- Lines of turns that are not in the log yet.
use Rattle.std.specs.Prelude.{ℕ, ◌≡◌, ◌<◌, ◌≤◌, ◌-◌, ◌⊎◌, Bool, true, false, List, [], ◌∷◌, ◌++◌, length, Option, Some, None, IfSome, IsSome, codes}
use Rattle.std.specs.Time.{instant_nanos}
use Rattle.fab_wire_streams.specs.declared.counted.Counted.{Counted}
use Rattle.fab_wire_log.specs.Lines.{line_text, Notes, Lasted}
use Rattle.fab_wire_log.specs.Shown.{shown_text}
use Rattle.fab_wire_log.specs.declared.pending.Line.{Line}
use Rattle.fab_wire_log.specs.declared.shown.Shown.{Shown}

-- what is shown of a turn whose answer was taken, or was not
abbrev pub ShowsEnd : Bool → Shown → Shown → Type 0
ShowsEnd true old new = new ≡ old
ShowsEnd false old new = shown_text new ≡ codes "unsent"

-- what the clock tells, and whether it may fail
module _ (tells : ℕ → Type 0) (fails : Type 0) where
  -- where it is known how long a turn took, its clock told that
  abbrev pub IsTimed : Line → Type 0
  IsTimed line = IfSome line.milliseconds (λ milliseconds. Lasted tells fails (instant_nanos line.start) milliseconds)

  -- a line, and what it became once its turn had ended: its answer may not have been taken
  abbrev pub IsMarked : Line → Line → Type 0
  IsMarked old new =
      (new ≡ old) ⊎ ((new.moment ≡ old.moment) × (new.start ≡ old.start)
      × ((shown_text new.shown ≡ shown_text old.shown) ⊎ (shown_text new.shown ≡ codes "unsent")) × IsTimed new)

  -- a line, and what it became as its turn ended, whose answer was taken or was not
  abbrev pub IsEnded : Bool → Line → Line → Type 0
  IsEnded is_taken old new = (new.moment ≡ old.moment) × (new.start ≡ old.start) × ShowsEnd is_taken old.shown new.shown × IsTimed new × IsSome new.milliseconds

  -- the turn of the line at a place ended so, and the other lines are as they were
  abbrev pub EndsAt : ℕ → Bool → List Line → List Line → Type 0
  EndsAt place is_taken lines lines' = (front : List Line) × (old : Line) × (new : Line) × (behind : List Line)
      × (length front ≡ place) × (lines ≡ front ++ old ∷ behind) × (lines' ≡ front ++ new ∷ behind) × IsEnded is_taken old new

  -- the lines are those of the turns from a number on: the turn of this number ended so; or no line is of it, and all are as they were
  abbrev pub HasEnded : ℕ → ℕ → Bool → List Line → List Line → Type 0
  HasEnded first number is_taken lines lines' =
      ((first ≤ number) × EndsAt (number - first) is_taken lines lines')
      ⊎ (((number < first) ⊎ (length lines ≤ number - first)) × (lines' ≡ lines))

  -- line by line
  abbrev pub AreMarked : List Line → List Line → Type 0
  AreMarked [] [] = Unit {0}
  AreMarked [] (y ∷ ys) = ⊥
  AreMarked (x ∷ xs) [] = ⊥
  AreMarked (x ∷ xs) (y ∷ ys) = IsMarked x y × AreMarked xs ys

-- the first of the lines is of a turn that has not ended, if there is one
abbrev pub FirstWaits : List Line → Type 0
FirstWaits [] = Unit {0}
FirstWaits (line ∷ lines) = line.milliseconds ≡ None

-- the log has these lines behind what it had
abbrev pub AreNoted : {W : Type 0} → (W → Option (List ℕ)) → Counted W → List Line → Counted W → Type 0
AreNoted contents log [] log' = log' ≡ log
AreNoted {W} contents log (line ∷ lines) log' = (between : Counted W) × (milliseconds : ℕ) × (line.milliseconds ≡ Some milliseconds)
    × Notes contents log between (line_text line.moment (shown_text line.shown) milliseconds) × AreNoted contents between lines log'

-- of the lines, as they became, the first ones are in the log, and the others wait
abbrev pub Advances : {W : Type 0} → (ℕ → Type 0) → Type 0 → (W → Option (List ℕ)) → Counted W → List Line → Counted W → List Line → Type 0
Advances tells fails contents log lines log' lines' = (noted : List Line) × AreMarked tells fails lines (noted ++ lines') × AreNoted contents log noted log'
