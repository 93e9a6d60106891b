-- What is read of an input.
use Rattle.std.specs.Prelude.{ℕ, ◌≡◌, ◌≤◌, List, length, take, Option, Result, Ok, Err}
use Rattle.std.specs.Io.KnownBytes.{Consumes, Keeps, IsAtEnd}

-- one read gave the next bytes of the input, none only at its end, or gave nothing
abbrev pub ReadsInto : {E : Type 0} → Option (List ℕ) → Option (List ℕ) → List ℕ → Result ℕ E → Type 0
ReadsInto old new room (Ok given) = (given ≤ length room) × Consumes old new (take given room) × (given ≡ 0 → IsAtEnd new)
ReadsInto old new room (Err fault) = Keeps old new
