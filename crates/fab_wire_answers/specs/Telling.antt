-- What telling an answer comes to.
use Rattle.std.specs.Prelude.{ℕ, ◌≡◌, List, Option}
use Rattle.std.specs.Io.KnownBytes.{Appends}
use Rattle.fab_wire_streams.specs.Failures.{one_more}
use Rattle.fab_wire_streams.specs.Sent.{AppendsBeginning}
use Rattle.fab_wire_answers.specs.declared.answers.Answer.{Answer}
use Rattle.fab_wire_answers.specs.declared.answers.Told.{Told}
use Rattle.fab_wire_answers.specs.declared.answers.Told.TheVariants.{Answered, Unsent}
use Rattle.fab_wire_answers.specs.Messages.{status_of, text, told_of}

-- the whole text was written and this is the status, or a beginning of the text was written
abbrev pub TellsMessage : Option (List ℕ) → Option (List ℕ) → ℕ → List ℕ → Told → Type 0
TellsMessage old new status text (Answered told) = (told ≡ status) × Appends old new text
TellsMessage old new status text Unsent = AppendsBeginning old new text

-- the whole answer was written and the status is its status, or a beginning of it was written
abbrev pub Tells : {A : Type 0} → Option (List ℕ) → Option (List ℕ) → Answer A → Told → Type 0
Tells old new a told = TellsMessage old new (status_of (told_of a)) (text (told_of a)) told

-- the count of failures, which only a failed write raises
abbrev pub failures_after_told : Told → ℕ → ℕ
failures_after_told (Answered status) before = before
failures_after_told Unsent before = one_more before
