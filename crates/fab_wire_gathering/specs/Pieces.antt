-- How far a call went that reads or writes bytes.
use Rattle.std.specs.Prelude.{ℕ, ◌≡◌, ◌<◌, ◌+◌, ◌⊎◌, List, [], take, Option, Result, Ok, Err}
use Rattle.std.specs.Io.KnownBytes.{Appends, Keeps}
use Rattle.fab_wire_gathering.specs.declared.pieces.Went.{Went}
use Rattle.fab_wire_gathering.specs.declared.pieces.Went.TheVariants as went

-- so many bytes, if there were any; else there are no more, or it would have to wait, or it failed
abbrev pub IsWent : {E : Type 0} → Result ℕ E → Went → Type 0
IsWent (Ok size) how = ((size ≡ 0) × (how ≡ went.Ended)) ⊎ ((0 < size) × (how ≡ went.Some size))
IsWent (Err e) how = (how ≡ went.Waits) ⊎ (how ≡ went.Failed)

-- of what is left a writer took the first bytes, and so many more are sent; or it took none
abbrev pub TakesOn : Option (List ℕ) → Option (List ℕ) → List ℕ → ℕ → ℕ → Went → Type 0
TakesOn old new rest sent sent' (went.Some size) = Appends old new (take size rest) × (sent' ≡ sent + size)
TakesOn old new rest sent sent' went.Ended = Appends old new [] × (sent' ≡ sent)
TakesOn old new rest sent sent' went.Waits = Keeps old new × (sent' ≡ sent)
TakesOn old new rest sent sent' went.Failed = Keeps old new × (sent' ≡ sent)
