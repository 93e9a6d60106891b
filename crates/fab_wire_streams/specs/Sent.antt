-- What is written of a text.
use Rattle.std.specs.Prelude.{ℕ, ◌≡◌, ◌<◌, ◌≤◌, List, [], ◌++◌, length, take, Option, Result, Ok, Err}
use Rattle.std.specs.Io.KnownBytes.{Appends}

-- the bytes that a writer holds grow by a beginning of the text
abbrev pub AppendsBeginning : Option (List ℕ) → Option (List ℕ) → List ℕ → Type 0
AppendsBeginning old new text = (front : List ℕ) × (back : List ℕ) × (text ≡ front ++ back) × Appends old new front

-- one write took some of the bytes, or none
abbrev pub AppendsSome : {E : Type 0} → Option (List ℕ) → Option (List ℕ) → List ℕ → Result ℕ E → Type 0
AppendsSome old new text (Ok taken) = (0 < taken) × (taken ≤ length text) × Appends old new (take taken text)
AppendsSome old new text (Err fault) = Appends old new []
