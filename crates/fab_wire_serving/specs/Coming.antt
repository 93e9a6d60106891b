-- What came of a connection over a stream.
use Rattle.std.specs.Prelude.{ℕ, ◌≡◌, ◌<◌, ◌≤◌, ◌⊎◌, List, Option, codes}
use Rattle.std.specs.Io.KnownBytes.{Keeps}
use Rattle.fab_wire_deadlines.specs.Deadlines.{clock_of, stream_of, end_at, seen_at, IsHastened}
use Rattle.fab_wire_gathering.specs.Guests.{most_lingering}
use Rattle.fab_wire_deadlines.specs.declared.deadline.Timed.{Timed}
use Rattle.fab_wire_serving.specs.Sides.{Side, Sides}
use Rattle.fab_wire_serving.specs.declared.connection.Came.{Came}
use Rattle.fab_wire_serving.specs.declared.connection.Came.TheVariants.{Served, Unsent}

-- all that was written came to be held by a stream; or a write failed, of which the outcome tells
abbrev pub IsSent : {S : Type 0} → (S → Option (List ℕ)) → Side → Type 0
IsSent {S} contents side = (0 < side.failures) ⊎ ((last : S) × Keeps side.bytes (contents last))

-- P holds of what the server says of the connection and of its sides after it; where its answer was not taken whole, of
-- something that it said
abbrev pub CameSo : {O : Type 0} → (O → Sides → Type 0) → Came O → Type 0
CameSo P (Served outcome) = (after : Sides) × P outcome after
CameSo {O} P Unsent = (outcome : O) × ((after : Sides) × P outcome after)

-- P holds of what the server says of the connection and of its sides after it, and what was written was sent so; or no write
-- failed, and the rest of what was written was not taken
abbrev pub ComesSo : {O : Type 0} → (O → Sides → Type 0) → (Side → Type 0) → Came O → Type 0
ComesSo P sent (Served outcome) = (after : Sides) × P outcome after × sent after.sent
ComesSo {O} P sent Unsent = (outcome : O) × ((after : Sides) × P outcome after × (after.sent.failures ≡ 0))

-- what the log shows of it
abbrev pub came_text : {O : Type 0} → (O → List ℕ) → Came O → List ℕ
came_text text (Served outcome) = text outcome
came_text text Unsent = codes "unsent"

-- a connection is let go of at once: the clock could not be read, or its time was up
abbrev pub IsLate : {C S : Type 0} → (C → Type 0) → Timed C S → Timed C S → Type 0
IsLate fails old new = (end_at new ≡ end_at old) × (fails (clock_of old) ⊎ (end_at new ≤ seen_at new))

-- from a reading of the clock on there is a second at most, and the other side was told that nothing more is sent
abbrev pub IsLetGo : {C S : Type 0} → (C → ℕ → Type 0) → (S → S → Type 0) → Timed C S → Timed C S → Type 0
IsLetGo {C} {S} tells ends old new = ((reading : ℕ) × tells (clock_of old) reading × IsHastened reading most_lingering old new)
    × ((between : S) × ends (stream_of old) between)
